-- What one element's act keeps, and one more element.
use Rattle.std.specs.Prelude.{ℕ, ◌+◌, ◌<◌, ◌≤◌, ◌≡◌, refl, List, length, take, get_or}
use Rattle.std.proofs.Common.{sym, ap₂, ◌∙◌, le_refl, add-one, arith}
use Rattle.std.proofs.lemmas.List.{length-take, get_or-take}
use Rattle.outcomes.specs.declared.Outcome.{Outcome}
use Rattle.outcomes.specs.declared.Outcome.TheVariants.{Skipped, Filled, Discarded, Placed}
use Rattle.addressing.specs.declared.Access.{Access}
use Rattle.addressing.specs.declared.Plan.{Plan}
use Rattle.addressing.specs.Rules.{elements_of}
use Rattle.addressing.specs.Valid.{Planned}
use Rattle.addressing.specs.Sound.{Sound}
use Rattle.addressing.specs.Laws.Plans.{plan_count}
use Rattle.accesses.specs.declared.Tally.{Tally}
use Rattle.accesses.specs.Refusals.{element_outcome, access_refusal}
use Rattle.accesses.specs.Entries.{entry_outcome, Surveyed}
use Rattle.accesses.proofs.Laws.Accepted.{element_sound}
use Rattle.accesses.proofs.Laws.Surveys.{surveyed_outcome}
use Rattle.memory.specs.Elements.{element_at, with_element}
use Rattle.memory.proofs.Laws.Elements.{length_with}
use Rattle.registers.specs.Registers.{element_of, with_element_of}
use Rattle.counts.specs.Counts.{more_placed}
use Rattle.counts.specs.Laws.Counts.{placed_none, placed_more}
use Rattle.counts.specs.declared.Counts.{Counts}
use Rattle.transfers.specs.Acts.{State, state, took, put, loaded, stored, Inside}
use Rattle.transfers.specs.Transfers.{transferred, outcome_of}

module _ (size register element : ℕ) where
  -- a load's element changes no memory, a store's no register
  pub loaded_memory : (o : Outcome) (s : State) → (loaded size register element o s).memory ≡ s.memory
  loaded_memory Skipped s = refl
  loaded_memory (Filled bits) s = refl
  loaded_memory Discarded s = refl
  loaded_memory (Placed byte) s = refl

  pub stored_elements_lem : (o : Outcome) (s : State) → (stored size register element o s).elements ≡ s.elements
  stored_elements_lem Skipped s = refl
  stored_elements_lem (Filled bits) s = refl
  stored_elements_lem Discarded s = refl
  stored_elements_lem (Placed byte) s = refl

  -- a store keeps the length of memory
  pub stored_length : (o : Outcome) (s : State) → length (stored size register element o s).memory ≡ length s.memory
  stored_length Skipped s = refl
  stored_length (Filled bits) s = refl
  stored_length Discarded s = refl
  stored_length (Placed byte) s = length_with s.memory byte size _

  -- an element counts at most once
  pub loaded_count : (o : Outcome) (s : State) → (loaded size register element o s).counts.placed ≤ s.counts.placed + 1
  loaded_count Skipped s = omega arith
  loaded_count (Filled bits) s = omega arith
  loaded_count Discarded s = omega arith
  loaded_count (Placed byte) s = le_refl _

  pub stored_count : (o : Outcome) (s : State) → (stored size register element o s).counts.placed ≤ s.counts.placed + 1
  stored_count Skipped s = omega arith
  stored_count (Filled bits) s = omega arith
  stored_count Discarded s = omega arith
  stored_count (Placed byte) s = le_refl _

-- an element takes bits or is put, and its byte is counted beside n others
module _ (size register element byte : ℕ) (c : Counts) (n : ℕ) (es m : List ℕ) {x : ℕ} where
  pub took_counted : {es' : List ℕ} → x ≡ element_at m byte size → es' ≡ with_element_of es register element x
      → state es' m (more_placed c (n + 1)) ≡ took size register element byte (state es m (more_placed c n))
  took_counted p q = rw (q, p, ← placed_more c n 1)

  pub put_counted : {m' : List ℕ} → x ≡ element_of es register element → m' ≡ with_element m byte size x
      → state es m' (more_placed c (n + 1)) ≡ put size register element byte (state es m (more_placed c n))
  put_counted p q = rw (q, p, ← placed_more c n 1)

-- no element yet, and one more
pub transferred_start : (act : ℕ → Outcome → State → State) (f : ℕ → Outcome) (es m : List ℕ) (c : Counts) → state es m (more_placed c 0) ≡ transferred act f 0 (state es m c)
unfolding transferred
transferred_start act f es m c = rw (placed_none c)

pub transferred_more : (act : ℕ → Outcome → State → State) (f : ℕ → Outcome) (n : ℕ) (s : State) → transferred act f (n + 1) s ≡ act n (f n) (transferred act f n s)
unfolding transferred
transferred_more act f n s = rw add-one

-- an element's bytes lie in memory
pub sound_inside : (a : Access) (o : Outcome) → Sound a o → Inside a.size a.memory o
sound_inside a Skipped s = tt
sound_inside a (Filled bits) s = tt
sound_inside a Discarded s = tt
sound_inside a (Placed byte) s = s.0

-- the entries that a loop over them meets stand for the elements' outcomes, and lie in memory
module _ (p : Plan) (ok : Planned p) (clear : (access_refusal p.access).number ≡ 0) {r : Tally} {entries : List ℕ} (v : Surveyed (element_outcome p.access) (elements_of p.access) r entries) (k : ℕ) (h : k < length (take p.count entries)) where
  pub met_place : k < p.count
  met_place = omega (arith, rw length-take at h)

  pub met_outcome : entry_outcome p.fill (get_or (take p.count entries) k 0) ≡ outcome_of p.access k
  met_outcome = let l = met_place in rw get_or-take (surveyed_outcome p ok v clear k (rw (← plan_count p ok) l))

  pub met_inside : {o : Outcome} → o ≡ entry_outcome p.fill (get_or (take p.count entries) k 0) → Inside p.access.size p.access.memory o
  met_inside e = rw (e, met_outcome) (sound_inside p.access (outcome_of p.access k) (element_sound p.access k))

-- one turn of the loop over elements
pub transferred_turn : (act : ℕ → Outcome → State → State) (f : ℕ → Outcome) (k : ℕ) (s : State) {t u : State} (o : Outcome) → o ≡ f k → t ≡ transferred act f k s → u ≡ act k o t → u ≡ transferred act f (k + 1) s
transferred_turn act f k s o q inv e = e ∙ ap₂ (act k) q inv ∙ sym (transferred_more act f k s)
