-- What a survey of an access tells to those who act on its elements.
use Rattle.std.specs.Prelude.{ℕ, zero, suc, ◌+◌, ◌-◌, ◌<◌, ◌≡◌, refl, List, get_or, eqb, ltb}
use Rattle.std.proofs.Common.{sym, ap, ◌∙◌, arith, lt-ltb, ne_eqb, eq-eqb, ltb-true}
use Rattle.std.proofs.lemmas.Bool.{eqb-false}
use Rattle.numbers.specs.Choice.{pick}
use Rattle.numbers.specs.Laws.Choice.{pick_case}
use Rattle.sheet.specs.Sizes.{memory_limit}
use Rattle.outcomes.specs.declared.Outcome.{Outcome}
use Rattle.outcomes.specs.declared.Outcome.TheVariants.{Skipped, Filled, Discarded, Placed}
use Rattle.addressing.specs.declared.Access.{Access}
use Rattle.addressing.specs.declared.Located.{Located}
use Rattle.addressing.specs.declared.Plan.{Plan}
use Rattle.addressing.specs.Rules.{elements_of, low_bits}
use Rattle.addressing.specs.Valid.{SizedAccess, Planned}
use Rattle.addressing.specs.Laws.Plans.{plan_fill}
use Rattle.addressing.specs.Sound.{Sound}
use Rattle.refusals.specs.declared.Stop.{Stop}
use Rattle.clashes.specs.Entries.{filled_entry}
use Rattle.accesses.specs.declared.Tally.{Tally}
use Rattle.accesses.specs.Refusals.{element_outcome, first_refused, access_refusal}
use Rattle.accesses.specs.Entries.{Near, entry_of, entry_outcome, Surveyed, Told}
use Rattle.accesses.proofs.Laws.Accepted.{element_sound, element_accepted}

-- what an entry stands for: nothing, a byte of a memory, a fill or a discarded element
pub entry_cases : (P : Outcome → Type 0) (fill : ℕ) → P Skipped → ((b : ℕ) → b < memory_limit → P (Placed b)) → P (Filled fill) → P Discarded
    → (x : ℕ) → P (entry_outcome fill x)
unfolding entry_outcome
entry_cases P fill skipped placed filled discarded x =
    pick_case P (eqb x 0) Skipped _ (λ e. skipped)
    (λ e. pick_case P (ltb x filled_entry) (Placed (x - 1)) _ (λ l. placed (x - 1) (omega (arith, ltb-true x filled_entry l, eqb-false x 0 e)))
    (λ l. pick_case P (eqb x filled_entry) (Filled fill) Discarded (λ f. filled) (λ f. discarded)))

sound_near : (a : Access) → SizedAccess a → (o : Outcome) → Sound a o → Near o
sound_near a ok Skipped h = tt
sound_near a ok (Filled b) h = tt
sound_near a ok Discarded h = tt
sound_near a ok (Placed b) h = omega (arith, h.0, ok.some, ok.memory)

-- a byte of an element is a byte of memory
pub element_near : (a : Access) → SizedAccess a → (k : ℕ) → Near (element_outcome a k).outcome
element_near a ok k = sound_near a ok (element_outcome a k).outcome (element_sound a k)

-- an entry stands for its outcome
sound_entry : (a : Access) → SizedAccess a → (o : Outcome) → Sound a o → entry_outcome (low_bits a) (entry_of o) ≡ o
unfolding entry_outcome pick
sound_entry a ok Skipped h = refl
sound_entry a ok (Filled b) h = ap Filled (sym h.1)
sound_entry a ok Discarded h = refl
sound_entry a ok (Placed b) h =
    let e : b + 1 - 1 ≡ b = omega arith in
    rw (ne_eqb (b + 1) 0 (omega arith), lt-ltb (b + 1) filled_entry (omega (arith, h.0, ok.some, ok.memory)), e)

-- of elements of which none is refused the first refused is none
none_first : (f : ℕ → Located) (i m : ℕ) → ((k : ℕ) → k < i + m → (f k).refusal ≡ 0) → (first_refused f i m).number ≡ 0
unfolding first_refused pick
none_first f i zero h = refl
none_first f i (suc m) h = rw (eq-eqb (f i).refusal 0 (h i (omega arith))) (none_first f (suc i) m (λ k l. h k (omega arith)))

-- the entries of a survey that finds no refusal stand for the elements' outcomes
pub surveyed_told : (p : Plan) → Planned p → {r : Tally} {entries : List ℕ} → Surveyed (element_outcome p.access) (elements_of p.access) r entries
    → r.stop.number ≡ 0 → Told p.access entries
surveyed_told p ok s z k l =
    let a = p.access in rw (s.each z k l) (sound_entry a ok.valid.sized (element_outcome a k).outcome (element_sound a k))

-- and so do those of an access that is not refused
pub surveyed_outcome : (p : Plan) → Planned p → {r : Tally} {entries : List ℕ} → Surveyed (element_outcome p.access) (elements_of p.access) r entries
    → (access_refusal p.access).number ≡ 0 → (k : ℕ) → k < elements_of p.access
    → entry_outcome p.fill (get_or entries k 0) ≡ (element_outcome p.access k).outcome
surveyed_outcome p ok s h k l =
    let a = p.access in
    let z = ap (λ (x : Stop). x.number) s.stop ∙ none_first (element_outcome a) 0 (elements_of a) (λ i g. element_accepted a h i (omega arith)) in
    rw (plan_fill p ok) (surveyed_told p ok s z k l)
