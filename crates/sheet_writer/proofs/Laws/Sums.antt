-- The length of the fields of the first n of some elements, as a chain sums it.
use Rattle.std.specs.Prelude.{⊤, ℕ, zero, suc, ◌+◌, ◌*◌, ◌<◌, ◌≤◌, ◌≡◌, refl, List, length, take, get_or, map, min, sum_by}
use Rattle.std.specs.Fn.{Called}
use Rattle.std.specs.Iterator.{Drains}
use Rattle.std.specs.Iterator.Adapters.{map_source, map_callee}
use Rattle.std.specs.Iterator.Runs.{EachRunFrom}
use Rattle.std.specs.List.{fold}
use Rattle.std.specs.Slice.Iter.{iter_rest}
use Rattle.std.specs.declared.iter.Map.{Map}
use Rattle.std.specs.declared.slice.Iter.{Iter}
use Rattle.std.proofs.Common.{arith, add-one, sym, ap, ◌∙◌, length-append}
use Rattle.std.proofs.iter.Yields.{fronts}
use Rattle.std.proofs.lemmas.Iterator.{YieldsList, YieldsList-from_slice, YieldsList-from_map, maps}
use Rattle.std.proofs.lemmas.Iterator.Consumers.{sum_by_from_yields_List, fits_by_from_yields_list}
use Rattle.std.proofs.lemmas.List.{length-take-le}
use Rattle.std.proofs.lemmas.List.Sums.{sum_by-le, sum_by_more}
use denote.Param.Members.{Mut}
use denote.Ref.{Bor}
use Rattle.numbers.specs.Lists.{each}

sum_each : {A : Type 0} (field : A → List ℕ) (d : A) (xs : List A) (n : ℕ) → n ≤ length xs
    → sum_by (λ x. length (field x)) (take n xs) ≡ length (each n (λ (k : ℕ). field (get_or xs k d)))
unfolding each
sum_each field d xs zero h = refl
sum_each field d xs (suc n) h =
    rw add-one at (sum_by_more (λ x. length (field x)) xs n d (omega arith))
    ∙ ap (λ (k : ℕ). k + length (field (get_or xs n d))) (sum_each field d xs n (omega arith))
    ∙ sym (length-append (each n (λ (k : ℕ). field (get_or xs k d))) (field (get_or xs n d)))

-- `xs[..n].iter().map(..).sum()`, whose closure computes the length of an element's field, at most m
module _ {A F : Type 0} (g : Mut F (Bor A × Unit {0}) ℕ) (field : A → List ℕ) (m n : ℕ) (xs : List A) (s : Map (Iter A) F)
    (few : n ≤ length xs) (from : iter_rest (map_source s) ≡ take n xs)
    (maps_to : (x : Bor A) (r : ℕ) (q : F) → Called g (map_callee s) (x, tt {0}) r q → (q ≡ map_callee s) × (r ≡ length (field x.now)) × (r ≤ m)) where
  road : (h : A → ℕ) → ((x : A) → length (field x) ≤ m → length (field x) ≡ h x) → YieldsList (maps fronts g) (λ r. r) s (map h (take n xs))
  road h e =
      YieldsList-from_map g h (YieldsList-from_slice (take n xs) from) refl
      (λ x r q k. let t = maps_to x r q k in (t.0, omega (arith, t.1, t.2, e x.now)))

  abbrev least : A → ℕ
  least x = min (length (field x)) m

  small : sum_by least (take n xs) ≤ n * m
  small = rw (length-take-le n xs few) at (sum_by-le least m (take n xs) (λ k d l. omega arith))

  pub sum_fits : (top : ℕ) → n * m < top → EachRunFrom (maps fronts g) s (λ p. fold (λ a x. a + x) 0 p.items < top)
  sum_fits top h = fits_by_from_yields_list least (take n xs) s top (road least (λ x l. omega arith)) (omega (arith, small))

  pub sum_is : (d : A) (r : ℕ) → (ys : List ℕ) × (⊤ → Drains (maps fronts g) s ys) × (r ≡ fold (λ a x. a + x) 0 ys) → (r ≡ length (each n (λ (k : ℕ). field (get_or xs k d)))) × (r ≤ n * m)
  sum_is d r ran =
      let e = sum_by_from_yields_List (λ x. length (field x)) (take n xs) s r ran (road _ (λ x l. refl)) in
      let l = sum_by_from_yields_List least (take n xs) s r ran (road least (λ x l. omega arith)) in
      (e ∙ sum_each field d xs n few, omega (arith, small))
