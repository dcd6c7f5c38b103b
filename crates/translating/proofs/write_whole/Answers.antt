use mathlib.Core.Path.{◌≡◌, subst}
use mathlib.Core.List.{List}
use Prim.Native.Nat.{ℕ}
use lib.Seq.{sets}
use Rattle.masks.specs.Masks.{mask_place}
use Rattle.masks.proofs.Laws.Written.{one_empty}
use native.Mathlib.Omega.{arith}
use Rattle.translating.proofs.write_whole.Goals as goal

pub write_record-requires : goal.write_record-requires
write_record-requires c = let s = c in (omega (arith, s.requires.0), s.requires.2)

pub returns : goal.returns
returns c =
    let a = c.args in
    let m = c.clear_masks in
    record {
      wrote = c.write_record.ensures;
      masks_after = subst (λ (xs : List ℕ). m.new.masks ≡ sets a.masks.now (mask_place a.k) xs) (one_empty a.k) m.ensures;
    }
