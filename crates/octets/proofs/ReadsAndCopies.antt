-- What is read at an offset, and what a copy to an offset leaves.
use mathlib.Core.Path.{◌≡◌}
use mathlib.Core.List.{◌++◌}
use Prim.Native.Nat.{ℕ, ◌+◌, ◌-◌, ◌<◌, ◌≤◌}
use native.Mathlib.Nat.{add-sub_cancel_left}
use lib.ListN.{length, take, drop}
use borrow.Author.Tests.{le-leb, lt-leb}
use Rattle.lists.specs.Bytes.{Bytes}
use Rattle.octets.specs.Octets.{pasted}

-- what a copy into the part from an offset on leaves of the whole
pub copied : (d s : Bytes) (at : ℕ) → at + length s ≤ length d
    → take at d ++ (s ++ drop (at + length s - at) (drop at d)) ≡ pasted d at s
unfolding pasted
copied d s at h = rw (le-leb _ _ h, add-sub_cancel_left at (length s))

pub not_copied : (d s : Bytes) (at : ℕ) → length d < at + length s → pasted d at s ≡ d
unfolding pasted
not_copied d s at h = rw (lt-leb _ _ h)
