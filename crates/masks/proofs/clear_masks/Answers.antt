use Rattle.std.proofs.Common.{◌≡◌, ◌-◌, ◌*◌, arith, rules}
use Rattle.std.proofs.lemmas.List.{places}
use Rattle.masks.specs.Masks.{mask_bytes, mask_place}
use Rattle.masks.proofs.Laws.Written.{cleared, empty_masks_lem}
use Rattle.masks.proofs.clear_masks.Goals as goal

pub returns : goal.returns
returns c =
    let a = c.args in
    let e : a.end * mask_bytes - a.first * mask_bytes ≡ (a.end - a.first) * mask_bytes = omega arith in
    rw (← empty_masks_lem (a.end - a.first), ← e)
    (cleared a.masks.now c.fill.new.self (mask_place a.first) (a.end * mask_bytes - a.first * mask_bytes) (omega arith) (search (rules, places)))
