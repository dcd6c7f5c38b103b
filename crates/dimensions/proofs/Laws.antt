-- The loops over a layout's dimensions and over the leading ones that are fixed, and the numbers after theirs, copied to the start.
use Prim.Native.Nat.{ℕ, zero, suc, ◌+◌, ◌-◌, ◌*◌, ◌<◌, ◌≤◌}
use mathlib.Core.Path.{◌≡◌, refl, sym, ◌∙◌}
use mathlib.Core.Bool.{Bool, true, false, not}
use mathlib.Core.List.{List}
use native.Mathlib.Nat.{sub-zero, zero-add}
use Rattle.std.proofs.Common.{zero-le}
use native.Mathlib.Numerals.{add-one}
use native.Mathlib.Omega.{arith}
use lib.ListN.{length, get_or, replicate}
use lib.Seq.{set-get_or}
use Rattle.std.specs.List.{CopiedTo, SameFrom}
use Rattle.std.proofs.lemmas.List.{ext_get_or}
use Rattle.numbers.specs.First.{first_from}
use Rattle.numbers.specs.Lists.{line}
use Rattle.numbers.specs.Laws.Lines.{line_inside, line_outside}
use Rattle.numbers.specs.Laws.Lists.{length_line}
use Rattle.numbers.specs.Laws.Choice.{by_order}
use Rattle.numbers.specs.Laws.First.{first_found, first_next, first_end}
use Rattle.tensor_ranges.specs.Layouts.{the_dimension}
use Rattle.sheet.specs.Sizes.{rank_places}
use Rattle.sheet.specs.declared.Dimension.{Dimension}
use Rattle.sheet.specs.declared.Layout.{Layout}
use Rattle.dimensions.specs.Dimensions.{dimension_numbers, dimension_in, dimension_put, layout_numbers, fixed, fixed_part, lead, lead_start, tail_of, tail_numbers, part_limit}
use Rattle.dimensions.specs.Laws.Tails.{numbers_dimension}

-- the numbers of the first d dimensions
unfoldable pub numbers_before : Layout → ℕ → List ℕ
numbers_before l zero = replicate (rank_places * dimension_numbers) 0
numbers_before l (suc d) = dimension_put l (numbers_before l d) d

-- a dimension by the layout's numbers
pub same_dimension : (l : Layout) {ns : List ℕ} {d : ℕ} {x : Dimension} → ns ≡ layout_numbers l → d < rank_places → x ≡ dimension_in ns (dimension_numbers * d) → x ≡ the_dimension l.dimensions d
same_dimension l {d = d} n h e = e ∙ rw n (numbers_dimension l d h)

module _ (l : Layout) where
  abbrev loose : ℕ → Bool
  loose i = not (fixed (the_dimension l.dimensions i))

  -- the d dimensions before are fixed and add `start`
  pub record Leading (d start : ℕ) : Type 0 where
    pub goes : first_from loose d (l.rank - d) ≡ lead l
    pub adds : start ≡ lead_start l d
    pub most : start ≤ d * part_limit

  pub leading_start : Leading 0 0
  unfolding lead lead_start
  leading_start = record { goes = rw (sub-zero l.rank) refl; adds = refl; most = omega arith }

  module _ (d start : ℕ) (w : Leading d start) where
    pub leading_more : d < l.rank → fixed (the_dimension l.dimensions d) ≡ true → (x : ℕ) → x ≡ fixed_part (the_dimension l.dimensions d) → x ≤ part_limit → Leading (d + 1) (start + x)
    unfolding lead_start
    leading_more h e x f m =
        record {
          goes = sym (first_next loose d l.rank h (rw e refl)) ∙ w.goes;
          adds = rw (add-one, w.adds, f) refl;
          most = omega (arith, w.most);
        }

    -- dimension d is the first that is not fixed, or there is none
    pub leading_stop : d < l.rank → fixed (the_dimension l.dimensions d) ≡ false → d ≡ lead l
    leading_stop h e = sym (first_found loose d l.rank h (rw e refl)) ∙ w.goes

    pub leading_end : l.rank ≤ d → d ≡ lead l
    leading_end h = sym (first_end loose d l.rank h) ∙ w.goes

    -- what is known of the answer
    pub lead_known : d ≡ lead l → (d ≡ lead l) × (start ≡ lead_start l (lead l)) × (start ≤ lead l * part_limit)
    lead_known e = (e, rw (← e) w.adds, rw (← e) w.most)

-- n numbers copied to the start, from place `from` on
copied_line : (ns out : List ℕ) (from n : ℕ) → length out ≡ length ns → n ≤ length ns → CopiedTo ns out from 0 n → SameFrom ns out (0 + n)
    → out ≡ line ns 0 (λ (k : ℕ). get_or ns (from + k) 0) n
copied_line ns out from n e room copied same =
    let g : ℕ → ℕ = λ k. get_or ns (from + k) 0 in
    ext_get_or 0 out (line ns 0 g n) (e ∙ sym (length_line ns 0 g n))
    (λ i h. by_order i n
    (λ l. copied i 0 zero-le (omega arith) ∙ rw (sub-zero) (sym (rw zero-add at (line_inside ns 0 g n i 0 l (omega arith)))))
    (λ l. same i 0 (omega arith) ∙ sym (line_outside ns 0 g n i 0 (λ j m q. omega arith))))

-- the answer by what is known of the leading dimensions
pub tail_known : (l : Layout) {count start : ℕ} → (count ≡ lead l) × (start ≡ lead_start l (lead l)) × (start ≤ lead l * part_limit)
    → (record { rank = l.rank - count; start = start } ≡ tail_of l) × (start ≤ lead l * part_limit)
unfolding tail_of
tail_known l (e, f, m) = (rw (e, f) refl, m)

-- the numbers where some leading dimensions are fixed, and where none is
pub tail_moved : (l : Layout) (ns out : List ℕ) {count from end : ℕ} → ns ≡ layout_numbers l → count ≡ lead l
    → from ≡ dimension_numbers * count → end ≡ from + dimension_numbers * (l.rank - count) → end ≤ length ns
    → length out ≡ length ns → CopiedTo ns out from 0 (end - from) → SameFrom ns out (0 + (end - from)) → out ≡ tail_numbers l
unfolding tail_numbers
tail_moved l ns out {count} {from} {end} n e f g room long copied same =
    let many : end - from ≡ dimension_numbers * (l.rank - lead l) = omega (arith, e) in
    copied_line ns out from (end - from) long (omega arith) copied same ∙ rw (many, f, e, n) refl

line_self : (ns : List ℕ) (n : ℕ) → line ns 0 (λ (k : ℕ). get_or ns (0 + k) 0) n ≡ ns
unfolding line
line_self ns zero = refl
line_self ns (suc n) = rw (line_self ns n) (set-get_or ns (0 + n) 0)

pub tail_stays : (l : Layout) {ns : List ℕ} {count : ℕ} → ns ≡ layout_numbers l → count ≡ lead l → count ≤ 0 → ns ≡ tail_numbers l
unfolding tail_numbers
tail_stays l n e h =
    let z : lead l ≡ 0 = omega arith in
    n ∙ rw z (sym (line_self (layout_numbers l) (dimension_numbers * (l.rank - 0))))
