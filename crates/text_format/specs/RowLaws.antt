-- The text of a store that passes check 2 by a lent table of bytes: the numbers of its map's rows fit the bytes of a row.
use Rattle.std.specs.Prelude.{ℕ, ◌+◌, ◌*◌, ◌<◌, ◌≡◌, Bool, false, ◌&&◌, eqb, ltb}
use Rattle.std.proofs.Common.{arith, ◌∙◌, subst}
use Rattle.std.proofs.Math.Path.{ap}
use Rattle.std.proofs.Math.Logic.{⊎_elim}
use Rattle.std.proofs.Math.Bool.{true}
use Rattle.std.proofs.Math.Option.{none}
use mathlib.Core.List.Memᴰ
use mathlib.Core.List.{List, map, Memᴰ}
use Rattle.std.proofs.Math.Dec.{leb}
use borrow.Author.Tests.{eqb-true, leb-true}
use Rattle.lists.specs.Cases.{by_bool, clash}
use Rattle.lists.specs.Bytes.{Bytes}
use Rattle.octets.specs.Octets.{byte_at, be16, part}
use Rattle.cords.specs.Lent.{lent_entry}
use Rattle.event.specs.declared.Cord.{Cord}
use Rattle.event.specs.declared.Body.{Body}
use Rattle.event.specs.declared.Body.TheVariants.{Create as create, Grant as grant, Revoke as revoke, Join as join, Unplug as unplug}
use Rattle.event.specs.Fields.{kind_of}
use Rattle.event.specs.Contents.{port_a_of, port_b_of, kind_a_of, kind_b_of, cord_at, body_of}
use Rattle.event.specs.Checks.{cord_good, refusal}
use Rattle.event.specs.CheckLaws.{passes→, join_ports}
use Rattle.model.specs.Events.{Event}
use Rattle.model.specs.Store.{event_of, places, held_in, creator_good, store_good}
use Rattle.model.proofs.StoreLaws.{checked→, checked_held, places_first, creator→, later→}
use Rattle.model.specs.Heights.{view}
use Rattle.model.specs.Verdicts.{verdict}
use Rattle.model.specs.Map.{map_rows}
use Rattle.model.specs.Rows.{map_bytes}
use Rattle.model.proofs.MapLaws.{row_by}
use Rattle.model.proofs.Packing.{held-set}
use Rattle.text_format.specs.Text.{text_of, room_text}
use Rattle.text_format.specs.TextLaws.{Fits, text_of_set}

-- every number of a list is a byte's, as it is where the code has the list
abbrev pub Octets : Bytes → Type 0
Octets s = (i : ℕ) → byte_at s i < 256

-- an entry of two bytes is below 65,536
entry_low : (table : Bytes) → Octets table → (a b : ℕ) → lent_entry table a b < 65536
unfolding lent_entry
entry_low table bytes a b =
    by_bool (ltb a 16 && ltb b 16)
    (λ t. rw t (omega (arith, bytes (2 * (16 * a + b)), bytes (2 * (16 * a + b) + 1))))
    (λ f. rw f (omega arith))

-- the cord of an event's bytes
abbrev cord_in : Bytes → Cord
cord_in x = cord_at (be16 x 8) (be16 x 10) (byte_at x 5) (byte_at x 6) (be16 x 12)

abbrev is_join : Body → Bool
is_join create = false
is_join (grant g) = false
is_join revoke = false
is_join (join c) = true
is_join (unplug a) = false

abbrev joined : Cord → Body → Cord
joined d create = d
joined d (grant g) = d
joined d revoke = d
joined d (join c) = c
joined d (unplug a) = d

other_kind : (x : Bytes) → eqb (kind_of x) 3 ≡ false → is_join (body_of x) ≡ false
unfolding body_of
other_kind x f =
    by_bool (eqb (kind_of x) 0) (λ a. rw a)
    (λ a. rw a (by_bool (eqb (kind_of x) 1) (λ b. rw b) (λ b. rw b (by_bool (eqb (kind_of x) 2) (λ c. rw c) (λ c. rw (c, f))))))

join_kind : (x : Bytes) (c : Cord) → body_of x ≡ join c → kind_of x ≡ 3
join_kind x c e =
    by_bool (eqb (kind_of x) 3) (λ t. eqb-true (kind_of x) 3 t) (λ f. clash (is_join (body_of x)) (ap is_join e) (other_kind x f))

join_cord : (x : Bytes) (c : Cord) → body_of x ≡ join c → cord_in x ≡ c
unfolding body_of
join_cord x c e = let q : joined c (body_of x) ≡ c = ap (joined c) e in rw (join_kind x c e) at q

creator-joins : (x : Bytes) (c : Cord) → creator_good x ≡ true → body_of x ≡ join c → ⊥
creator-joins x c g e =
    let a = eqb-true (kind_of x) 0 (creator→ x g).0 in
    let b = join_kind x c e in
    omega arith

module _ (table : Bytes) (bytes : Octets table) where
  join_fits : (creator x : Bytes) (c : Cord) → refusal (lent_entry table) creator x ≡ none → body_of x ≡ join c → Fits c
  unfolding cord_good
  join_fits creator x c r e =
      let passed = passes→ (lent_entry table) creator x r in
      let cord = join_cord x c e in
      let ports = join_ports x passed.fields (join_kind x c e) in
      let short : leb c.metres (lent_entry table (kind_a_of c) (kind_b_of c)) ≡ true = rw e at passed.cord in
      let a : be16 x 8 ≡ port_a_of c = ap (λ (y : Cord). port_a_of y) cord in
      let b : be16 x 10 ≡ port_b_of c = ap (λ (y : Cord). port_b_of y) cord in
      record {
        fits_a = omega (arith, ports.0, ports.1);
        fits_b = omega (arith, ports.1);
        fits_metres =
            omega (arith, leb-true c.metres (lent_entry table (kind_a_of c) (kind_b_of c)) short, entry_low table bytes (kind_a_of c) (kind_b_of c));
      }

  module _ (store : Bytes) (count : ℕ) (good : store_good (lent_entry table) store count ≡ true) where
    pub rows_fit : (c : Cord) → Memᴰ c (map_rows (view (held_in store count))) → Fits c
    unfolding held_in event_of
    rows_fit c m =
        let checked = checked→ (lent_entry table) store count good in
        let held = checked_held (lent_entry table) store count checked in
        let r = row_by (held_in store count) (held-set (lent_entry table) store count good).1.distinct c m in
        let w = Memᴰ.of_map event_of (places store count) r.held in
        let e : body_of w.0 ≡ join c = ap (λ (y : Event). y.body) w.2 ∙ r.joins in
        ⊎_elim
        (λ q. absurd (creator-joins (part store 0 192) c held.creator-good (subst (λ (y : Bytes). body_of y ≡ join c) q e)))
        (λ n. join_fits (part store 0 192) w.0 c (later→ (lent_entry table) (part store 0 192) w.0 (held.others-good w.0 n)).1 e)
        (Memᴰ.cases_cons (subst (Memᴰ w.0) (places_first store count checked.at_least) w.1))

    -- the map call's rows and the verdicts of the held events give the text of the held set
    pub text_of_store : (rows : Bytes) (verdicts : List ℕ) → rows ≡ map_bytes (view (held_in store count))
        → verdicts ≡ map (λ e. verdict (view (held_in store count)) e.ident) (held_in store count)
        → text_of rows verdicts ≡ room_text (view (held_in store count))
    text_of_store rows verdicts p q = text_of_set (held_in store count) rows verdicts p q rows_fit
