-- Records written one after the other.
use Rattle.std.specs.Prelude.{ℕ, ◌+◌, ◌*◌, ◌≡◌, refl, List, ◌++◌, ℤ, length}
use Rattle.std.proofs.Common.{◌∙◌, arith, length-append}
use Rattle.std.proofs.lemmas.List.Edits.{sets}
use Rattle.numbers.specs.Laws.Lists.{puts_after}
use Rattle.records.specs.Laws.Records.{length_tape, tape_append}
use Rattle.records.specs.Records.{record_length, tape_numbers}
use Rattle.records.specs.declared.Record.{Record}
use Rattle.access_tapes.specs.Writing.{Wrote}

pub records_after : (out : List ℤ) (at : ℕ) (rs qs : List Record) {out₁ : List ℤ} {at₁ : ℕ} → Wrote out out₁ at rs at₁
    → sets out₁ (at₁ * record_length) (tape_numbers qs) ≡ sets out (at * record_length) (tape_numbers (rs ++ qs))
records_after out at rs qs {out₁} {at₁} w =
    let here : at₁ * record_length ≡ at * record_length + length (tape_numbers rs) = omega (arith, length_tape rs, w.next) in
    rw (tape_append rs qs, here) (puts_after out (at * record_length) (tape_numbers rs) (tape_numbers qs) w.numbers refl)

pub wrote_both : (out : List ℤ) (at : ℕ) (rs qs : List Record) {out₁ out₂ : List ℤ} {at₁ at₂ : ℕ} → Wrote out out₁ at rs at₁ → Wrote out₁ out₂ at₁ qs at₂
    → Wrote out out₂ at (rs ++ qs) at₂
wrote_both out at rs qs w v =
    record { next = omega (arith, w.next, v.next, length-append rs qs); numbers = v.numbers ∙ records_after out at rs qs w }
