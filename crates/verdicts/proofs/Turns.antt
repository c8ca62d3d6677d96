-- What a turn of the loop over the places does: the rows kept, and the effects.
use Prim.Native.Nat.{ℕ, ◌+◌, ◌<◌, ◌≤◌}
use native.Mathlib.Omega.{arith}
use mathlib.Core.Path.{◌≡◌, refl, sym, ap, ◌∙◌, subst}
use mathlib.Core.Logic.{◌⊎◌, inl, inr, ⊎_elim}
use mathlib.Core.Bool.{Bool, true, false, not, ◌&&◌, ◌||◌}
use mathlib.Core.List.Memᴰ
use mathlib.Core.List.{List, Memᴰ}
use lib.Dec.{eqb, ltb}
use lib.ListN.{length, get_or, take, set, replicate, length-replicate, get_or-replicate}
use Rattle.std.proofs.Math.ListN.{get_or-eq_default}
use lib.Seq.{take_all, get_or-set_same, get_or-set_other}
use borrow.Author.Tests.{eqb-true, eq-eqb, ltb-true, ltb-false, lt-ltb}
use Rattle.lists.specs.Cases.{by_bool, clash, and→, and←, or→, or←l, or←r}
use Rattle.lists.proofs.Sorting.{mem_get_d}
use Rattle.tables.specs.declared.BitRow.{BitRow}
use Rattle.tables.specs.Bits.{bit_in, bit_at, bit_repeated}
use Rattle.tables.specs.Filling.{more→, more←, last, taken}
use Rattle.verdicts.specs.Effects.{Within, ByRank, Graded, Struck, Effects, narrowed}

-- a → b, as a test
implies→ : (a b : Bool) → (not a || b) ≡ true → a ≡ true → b ≡ true
implies→ a b e t = rw t at e

implies← : (a b : Bool) → (a ≡ true → b ≡ true) → (not a || b) ≡ true
implies← true b h = h refl
implies← false b h = refl

-- a table of 256 entries that says nothing of any place
nowhere : (k : ℕ) → get_or (replicate 256 false) k false ≡ false
nowhere k =
    by_bool (ltb k 256)
    (λ t. get_or-replicate 256 k false false (ltb-true k 256 t))
    (λ f.
    let h : length (replicate 256 false) ≤ k = omega (arith, length-replicate 256 false, ltb-false k 256 f) in
    get_or-eq_default (replicate 256 false) false h)

-- ── turns ───────────────────────────────────────────────────────────────────────────────────────────────────────────────

-- the next place, and what it presents
pub next_low : {Q l : List ℕ} (i : ℕ) → Within Q l → i < length l → get_or l i 0 < 256
next_low {l = l} i w h = (w.each (get_or l i 0) (mem_get_d l i 0 h)).0

pub presented_low : {Q l : List ℕ} (i : ℕ) → Within Q l → i < length l → get_or Q (get_or l i 0) 0 < 256
presented_low {l = l} i w h = (w.each (get_or l i 0) (mem_get_d l i 0 h)).1

module _ (on : ℕ → ℕ → Bool) (G : List ℕ) (M : List BitRow) (l : List ℕ) where
  -- after the places `done`, the row of place g holds what each effective revoke of g has as an ancestor, and where g is done
  -- also each effective revoke of a place on its line
  abbrev Aims : List ℕ → ℕ → ℕ → Type 0
  Aims done r g = (get_or G r 0 ≡ g) ⊎ (Memᴰ g done × (on g (get_or G r 0) ≡ true))

  abbrev Spares : List Bool → List ℕ → ℕ → ℕ → Type 0
  Spares E done g j = (r : ℕ) → Memᴰ r done → get_or E r false ≡ true → Aims done r g → bit_at M r j ≡ true

  -- after the first i places
  pub record Turn (K : List BitRow) (E : List Bool) (i : ℕ) : Type 0 where
    pub creator : get_or E 0 false ≡ true
    pub others : (k : ℕ) → (k ≡ 0 → ⊥) → (Memᴰ k (take i l) → ⊥) → get_or E k false ≡ false
    pub not_struck : (k : ℕ) → Memᴰ k (take i l) → get_or E k false ≡ true → Struck on G M l E k → ⊥
    pub unstruck : (k : ℕ) → Memᴰ k (take i l) → (Struck on G M l E k → ⊥) → get_or E k false ≡ true
    pub kept→ : (g j : ℕ) → g < 256 → j < 256 → bit_at K g j ≡ true → Spares E (take i l) g j
    pub kept← : (g j : ℕ) → g < 256 → j < 256 → Spares E (take i l) g j → bit_at K g j ≡ true

  -- nothing stands in the table but the creator, and each row has every bit
  pub turn_start : (row : BitRow) → ((j : ℕ) → j < 256 → bit_in row j ≡ true) → Turn (replicate 256 row) (set (replicate 256 false) 0 true) 0
  turn_start row full =
      record {
        creator = refl;
        others = λ k ne m. get_or-set_other (replicate 256 false) 0 k true false ne ∙ nowhere k;
        not_struck = λ k m. absurd (Memᴰ.not-nil m);
        unstruck = λ k m. absurd (Memᴰ.not-nil m);
        kept→ = λ g j lg lj t r m. absurd (Memᴰ.not-nil m);
        kept← = λ g j lg lj h. bit_repeated 256 row g j ∙ rw (lt-ltb g 256 lg, full j lj);
      }

  pub turn_end : (K : List BitRow) (E : List Bool) (i : ℕ) → Turn K E i → length l ≤ i → Effects on G M l E
  turn_end K E i turn h =
      let all = take_all i l h in
      record {
        creator = turn.creator;
        others = λ k ne out. turn.others k ne (λ m. out (subst (Memᴰ k) all m));
        not_struck = λ k m. turn.not_struck k (subst (Memᴰ k) (sym all) m);
        unstruck = λ k m. turn.unstruck k (subst (Memᴰ k) (sym all) m);
      }

  -- one place more
  module _ (rank : ℕ → ℕ) (Q : List ℕ) (graded : Graded on rank Q G l) (sorted : ByRank rank l)
      (K : List BitRow) (E : List Bool) (i : ℕ) (turn : Turn K E i) (h : i < length l)
      (low : get_or Q (get_or l i 0) 0 < 256) (small : get_or l i 0 < 256) (inside : get_or l i 0 < length E) where
    abbrev e : ℕ
    e = get_or l i 0

    abbrev q : ℕ
    q = get_or Q (get_or l i 0) 0

    abbrev now_effective : List Bool
    now_effective = set E (get_or l i 0) (bit_at K (get_or Q (get_or l i 0) 0) (get_or l i 0))

    listed : Memᴰ e l
    listed = mem_get_d l i 0 h

    apart : (k : ℕ) → Memᴰ k (take i l) → k ≡ e → ⊥
    apart k m s = sorted.once i h (Memᴰ.cast (sym s) m)

    new : get_or now_effective e false ≡ bit_at K q e
    new = get_or-set_same E e (bit_at K q e) false inside

    same : (k : ℕ) → (k ≡ e → ⊥) → get_or now_effective k false ≡ get_or E k false
    same k ne = get_or-set_other E e k (bit_at K q e) false ne

    kept : (k : ℕ) → Memᴰ k (take i l) → get_or now_effective k false ≡ get_or E k false
    kept k m = same k (apart k m)

    -- the row of the presented place holds what each effective revoke of a place on the line of e has as an ancestor
    above→ : (j : ℕ) → j < 256 → bit_at K q j ≡ true → (r : ℕ) → Memᴰ r (take i l) → get_or E r false ≡ true
        → on e (get_or G r 0) ≡ true → bit_at M r j ≡ true
    above→ j lj t r m y a =
        turn.kept→ q j low lj t r m y
        (⊎_elim (λ s. inl (eqb-true (get_or G r 0) q s))
        (λ s. let p = graded.presents e (get_or G r 0) listed s in inr (sorted.lower_first i q h p.0 p.1, s))
        (or→ (eqb (get_or G r 0) q) (on q (get_or G r 0)) (sym (graded.line e (get_or G r 0) listed) ∙ a)))

    above← : (j : ℕ) → j < 256
        → ((r : ℕ) → Memᴰ r (take i l) → get_or E r false ≡ true → on e (get_or G r 0) ≡ true → bit_at M r j ≡ true) → bit_at K q j ≡ true
    above← j lj spares =
        turn.kept← q j low lj
        (λ r m y a. spares r m y
        (graded.line e (get_or G r 0) listed
        ∙ ⊎_elim
        (λ s. or←l (eqb (get_or G r 0) q) (on q (get_or G r 0)) (eq-eqb (get_or G r 0) q s))
        (λ s. or←r (eqb (get_or G r 0) q) (on q (get_or G r 0)) s.1)
        a))

    -- e strikes no place that is done
    no_strike : (k : ℕ) → Memᴰ k (take (i + 1) l) → on k (get_or G e 0) ≡ true → ⊥
    no_strike k m a =
        ⊎_elim
        (λ n. omega (arith, graded.aims e k listed (taken l i k n) a, sorted.ascends i k h n))
        (λ (s : k ≡ e). omega (arith, graded.aims e k listed (Memᴰ.cast s listed) a, ap rank s))
        (more→ l i h k m)

    -- e strikes no place that is done, so tables that differ only there strike alike
    struck_alike : (A B : List Bool) → ((r : ℕ) → (r ≡ e → ⊥) → get_or B r false ≡ get_or A r false) → (k : ℕ) → Memᴰ k (take (i + 1) l)
        → Struck on G M l A k → Struck on G M l B k
    struck_alike A B alike k m s =
        let ne : s.revoke ≡ e → ⊥ = λ p. no_strike k m (ap (λ (r : ℕ). on k (get_or G r 0)) (sym p) ∙ s.target_on_line) in
        record {
          revoke = s.revoke;
          listed = s.listed;
          is_effective = alike s.revoke ne ∙ s.is_effective;
          target_on_line = s.target_on_line;
          not-ancestor = s.not-ancestor;
        }

    struck→ : (k : ℕ) → Memᴰ k (take (i + 1) l) → Struck on G M l now_effective k → Struck on G M l E k
    struck→ = struck_alike now_effective E (λ r ne. sym (same r ne))

    struck← : (k : ℕ) → Memᴰ k (take (i + 1) l) → Struck on G M l E k → Struck on G M l now_effective k
    struck← = struck_alike E now_effective same

    -- the bit says whether e is struck
    bit→ : bit_at K q e ≡ true → Struck on G M l E e → ⊥
    bit→ t s =
        let before = sorted.lower_first i s.revoke h s.listed (graded.aims s.revoke e s.listed listed s.target_on_line) in
        clash (bit_at M s.revoke e) (above→ e small t s.revoke before s.is_effective s.target_on_line) s.not-ancestor

    bit← : (Struck on G M l E e → ⊥) → bit_at K q e ≡ true
    bit← none =
        above← e small
        (λ r m y a. by_bool (bit_at M r e) (λ t. t)
        (λ f. absurd (none (record {
          revoke = r;
          listed = taken l i r m;
          is_effective = y;
          target_on_line = a;
          not-ancestor = f;
        }))))

    not_struck : (k : ℕ) → Memᴰ k (take (i + 1) l) → get_or now_effective k false ≡ true → Struck on G M l now_effective k → ⊥
    not_struck k m y s =
        ⊎_elim
        (λ n. turn.not_struck k n (sym (kept k n) ∙ y) (struck→ k m s))
        (λ (p : k ≡ e).
        let t = sym new ∙ ap (λ (x : ℕ). get_or now_effective x false) (sym p) ∙ y in
        bit→ t (subst (λ (x : ℕ). Struck on G M l E x) p (struck→ k m s)))
        (more→ l i h k m)

    unstruck : (k : ℕ) → Memᴰ k (take (i + 1) l) → (Struck on G M l now_effective k → ⊥) → get_or now_effective k false ≡ true
    unstruck k m none =
        ⊎_elim
        (λ n. kept k n ∙ turn.unstruck k n (λ s. none (struck← k m s)))
        (λ (p : k ≡ e).
        let t = bit← (λ s. none (struck← k m (subst (λ (x : ℕ). Struck on G M l E x) (sym p) s))) in
        ap (λ (x : ℕ). get_or now_effective x false) p ∙ new ∙ t)
        (more→ l i h k m)

    module _ (K' : List BitRow) (rows : (a b : ℕ) → a < 256 → bit_at K' a b ≡ narrowed Q G M K e a b) where
      kept→ : (g j : ℕ) → g < 256 → j < 256 → bit_at K' g j ≡ true → Spares now_effective (take (i + 1) l) g j
      unfolding narrowed
      kept→ g j lg lj t r m y a =
          let all =
          and→ (bit_at K g j && (not (eqb g e) || bit_at K q j)) (not (bit_at K q e && eqb g (get_or G e 0)) || bit_at M e j)
          (sym (rows g j lg) ∙ t) in
          let two = and→ (bit_at K g j) (not (eqb g e) || bit_at K q j) all.0 in
          ⊎_elim
          (λ n. before n (sym (kept r n) ∙ y) two.0 (implies→ (eqb g e) (bit_at K q j) two.1) a)
          (λ p. itself p (implies→ (bit_at K q e && eqb g (get_or G e 0)) (bit_at M e j) all.1) a)
          (more→ l i h r m)
        where
          before : Memᴰ r (take i l) → get_or E r false ≡ true → bit_at K g j ≡ true → (eqb g e ≡ true → bit_at K q j ≡ true)
              → Aims (take (i + 1) l) r g → bit_at M r j ≡ true
          before n z own parent a =
              ⊎_elim
              (λ s. turn.kept→ g j lg lj own r n z (inl s))
              (λ s. ⊎_elim
              (λ d. turn.kept→ g j lg lj own r n z (inr (d, s.1)))
              (λ (p : g ≡ e). above→ j lj (parent (eq-eqb g e p)) r n z (ap (λ (x : ℕ). on x (get_or G r 0)) (sym p) ∙ s.1))
              (more→ l i h g s.0))
              a

          itself : r ≡ e → (bit_at K q e && eqb g (get_or G e 0) ≡ true → bit_at M e j ≡ true) → Aims (take (i + 1) l) r g
              → bit_at M r j ≡ true
          itself p own a =
              let t = sym new ∙ ap (λ (x : ℕ). get_or now_effective x false) (sym p) ∙ y in
              ⊎_elim
              (λ (s : get_or G r 0 ≡ g).
              ap (λ (x : ℕ). bit_at M x j) p
              ∙ own (and← (bit_at K q e) (eqb g (get_or G e 0)) t (eq-eqb g (get_or G e 0) (sym s ∙ ap (λ (x : ℕ). get_or G x 0) p))))
              (λ s. absurd (no_strike g s.0 (ap (λ (x : ℕ). on g (get_or G x 0)) (sym p) ∙ s.1)))
              a

      kept← : (g j : ℕ) → g < 256 → j < 256 → Spares now_effective (take (i + 1) l) g j → bit_at K' g j ≡ true
      unfolding narrowed
      kept← g j lg lj spares = rows g j lg ∙ and← _ _ (and← _ _ own parent) target
        where
          own : bit_at K g j ≡ true
          own =
              turn.kept← g j lg lj
              (λ r m y a. spares r (more← l i h r m) (kept r m ∙ y) (⊎_elim (λ s. inl s) (λ s. inr (more← l i h g s.0, s.1)) a))

          parent : (not (eqb g e) || bit_at K q j) ≡ true
          parent =
              implies← (eqb g e) (bit_at K q j)
              (λ t. above← j lj
              (λ r m y a.
              let p : g ≡ e = eqb-true g e t in
              spares r (more← l i h r m) (kept r m ∙ y) (inr (Memᴰ.cast p (last l i h), ap (λ (x : ℕ). on x (get_or G r 0)) p ∙ a))))

          target : (not (bit_at K q e && eqb g (get_or G e 0)) || bit_at M e j) ≡ true
          target =
              implies← (bit_at K q e && eqb g (get_or G e 0)) (bit_at M e j)
              (λ t.
              let both = and→ (bit_at K q e) (eqb g (get_or G e 0)) t in
              spares e (last l i h) (new ∙ both.0) (inl (sym (eqb-true g (get_or G e 0) both.1))))

      pub turn_again : Turn K' now_effective (i + 1)
      turn_again =
          record {
            creator = same 0 (λ p. graded.not_first e listed (sym p)) ∙ turn.creator;
            others =
                λ k ne out.
                same k (λ p. out (Memᴰ.cast p (last l i h))) ∙ turn.others k ne (λ m. out (more← l i h k m));
            not_struck = not_struck;
            unstruck = unstruck;
            kept→ = kept→;
            kept← = kept←;
          }
