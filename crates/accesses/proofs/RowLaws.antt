-- Laws of a survey row by row.
use Prim.Native.Nat.{ℕ, zero, suc, ◌+◌, ◌-◌, ◌*◌, ◌/◌, ◌%◌, ◌<◌, ◌≤◌}
use mathlib.Core.Bool.{Bool, false}
use mathlib.Core.Path.{◌≡◌, refl, sym, ap, ap₂, subst, ◌∙◌}
use mathlib.Core.List.{List}
use native.Mathlib.Nat.{add-zero, zero-add, zero-mul, suc-mul, add-mul, mul_assoc, mul-le-mul_right, div-one, div-add-mod', mod-lt, not-suc-le-zero}
use native.Mathlib.Omega.{arith}
use lib.IntN.{negsuc}
use lib.ListN.{length}
use borrow.Author.Tests.{le-leb}
use Rattle.numbers.specs.Choice.{pick}
use Rattle.numbers.specs.Lists.{line}
use Rattle.sheet.specs.Sizes.{rank_places, matrix_places}
use Rattle.sheet.specs.declared.ClampMode.{ClampMode}
use Rattle.tensor_ranges.specs.Laws.Facts.{layout_some, layout_most, layout_span}
use Rattle.clamps.specs.Clamps.{coordinate_of, outside}
use Rattle.clamps.proofs.Laws.Clamps.{stop_of, AtOr, Flat, outside_flat}
use Rattle.sheet.specs.declared.Dimension.{Dimension}
use Rattle.dimensions.specs.Dimensions.{lead, tail_of}
use Rattle.refusals.specs.Refusals.{stop_at, outside_undefined}
use Rattle.outcomes.specs.declared.Outcome.{Outcome}
use Rattle.outcomes.specs.declared.Outcome.TheVariants.{Filled, Discarded, Placed}
use Rattle.clamps.specs.declared.Clamped.{Clamped}
use Rattle.clamps.specs.declared.Clamped.TheVariants as clamped
use Rattle.addressing.specs.declared.Access.{Access}
use Rattle.addressing.specs.declared.Located.{Located}
use Rattle.addressing.specs.declared.Plan.{Plan}
use Rattle.addressing.specs.declared.rows.Inner.{Inner}
use Rattle.addressing.specs.Rules.{elements_of, low_bits, scaled, part, plus, settled, addressed, answered, refused, located}
use Rattle.addressing.specs.Rows.{up_to, last_of, cell_of, Out, Inside}
use Rattle.addressing.specs.Laws.Rows.{part_one, up_one, plus_stop, row_cell}
use Rattle.addressing.specs.Plans.{planned}
use Rattle.addressing.specs.Valid.{ValidAccess, Planned}
use Rattle.accesses.specs.declared.Tally.{Tally}
use Rattle.accesses.specs.Refusals.{element_outcome, placed_one, placed_count}
use Rattle.accesses.specs.Entries.{entry_of, Surveyed}
use Rattle.accesses.specs.Rows.{Passed, Went, Row, Even, same_entry_of, far_of}
use Rattle.accesses.proofs.Laws.{passed_none, passed_stop, passed_more, passed_end}

module _ (f : ℕ → Located) where
  -- the element at k is refused
  pub went_stop : {m k placed : ℕ} {entries : List ℕ} (to : ℕ) → Passed f m k placed entries → (x : Located) → k < m → x ≡ f k → (x.refusal ≡ 0 → ⊥)
      → (r : Tally) → r.stop.number ≡ x.refusal → r.stop.element ≡ k → Went f m to r entries
  went_stop to inv x h e n r p q =
      record {
        room = inv.room;
        refused = λ g. ap₂ stop_at p q ∙ passed_stop f inv x h e n;
        passed = λ z. absurd (n (sym p ∙ z));
      }

  -- all are passed
  pub went_on : {m k placed : ℕ} {entries : List ℕ} → Passed f m k placed entries → (r : Tally) → r.stop.number ≡ 0 → r.placed ≡ placed → Went f m k r entries
  went_on inv r p q = record { room = inv.room; refused = λ g. absurd (g p); passed = λ z. rw q inv }

  -- elements alike: none is refused, each has this entry, and y of each have a byte
  pub record Alike (k n : ℕ) (g : ℕ → ℕ) (y : ℕ) : Type 0 where
    pub fine : (i : ℕ) → i < n → (f (k + i)).refusal ≡ 0
    pub entry : (i : ℕ) → i < n → g i ≡ entry_of (f (k + i)).outcome
    pub placed : (i : ℕ) → i < n → y ≡ placed_one (f (k + i)).outcome

  pub passed_line : {m k placed : ℕ} {entries : List ℕ} (g : ℕ → ℕ) (y : ℕ) → y ≤ 1 → (n : ℕ) → Passed f m k placed entries → k + n ≤ m
      → Alike k n g y → Passed f m (k + n) (placed + n * y) (line entries k g n)
  unfolding line
  passed_line {m} {k} {placed} {entries} g y one zero inv h a = rw (add-zero k, zero-mul y, add-zero placed) inv
  passed_line {m} {k} {placed} {entries} g y one (suc n) inv h a =
      let before = passed_line g y one n inv (omega arith)
      (record { fine = λ i l. a.fine i (omega arith); entry = λ i l. a.entry i (omega arith); placed = λ i l. a.placed i (omega arith) }) in
      let e : k + suc n ≡ k + n + 1 = omega arith in
      let d : placed + suc n * y ≡ placed + n * y + y = omega (arith, suc-mul n y) in
      rw (e, d) (passed_more f before (f (k + n)) (omega arith) refl (a.fine n (omega arith)) (a.entry n (omega arith)) (a.placed n (omega arith)) one)

  -- a refusal on the way is the whole's
  pub went_past : {m j k : ℕ} {r : Tally} {entries : List ℕ} → Went f m j r entries → (r.stop.number ≡ 0 → ⊥) → Went f m k r entries
  went_past w n = record { room = w.room; refused = w.refused; passed = λ z. absurd (n z) }

  pub went_refused : {m k : ℕ} {r : Tally} {entries : List ℕ} → Went f m k r entries → (r.stop.number ≡ 0 → ⊥) → Surveyed f m r entries
  went_refused w n = record { room = w.room; stop = w.refused n; placed = λ z. absurd (n z); each = λ z. absurd (n z) }

  -- at the end all are passed
  pub passed_all : {m k placed : ℕ} {entries : List ℕ} → Passed f m k placed entries → m ≤ k → (r : Tally) → r.stop.number ≡ 0 → r.stop.element ≡ 0
      → r.placed ≡ placed → Surveyed f m r entries
  passed_all {m} {k} inv h r p q e =
      let g : k ≡ m = omega (arith, inv.inside) in
      record {
        room = inv.room;
        stop = ap₂ stop_at p q ∙ passed_end f inv h;
        placed = λ z. e ∙ inv.count ∙ ap (placed_count f) g;
        each = λ z i l. inv.each i (omega arith);
      }

-- the dimensions that are not fixed are no more than a layout has
pub tail_few : (p : Plan) → Planned p → p.tail.rank ≤ rank_places
unfolding planned tail_of
tail_few p h =
    let e : p.tail.rank ≡ p.access.layout.rank - lead p.access.layout = ap (λ (z : Plan). z.tail.rank) h.same in
    omega (arith, e, layout_most p.access.layout h.valid.sized.layout)

-- the first elements of a row
pub row_less : {a : Access} {before : Clamped} {k n : ℕ} (m : ℕ) → Row a before k n → m ≤ n → Row a before k m
row_less m r h = record { inside = omega (arith, r.inside); each = λ s l. r.each s (omega arith) }

-- a row is one quotient by the last span
pub row_of : (a : Access) → ValidAccess a → a.viewed ≡ false → (q n : ℕ) {k : ℕ} {before : Clamped} → k ≡ q * (last_of a.layout).span
    → n ≤ (last_of a.layout).span → k + n ≤ elements_of a → before ≡ up_to a.load a.layout (a.layout.rank - 1) q → Row a before k n
unfolding element_outcome
row_of a ok plain q n e m h f =
    record {
      inside = h;
      each = λ s l. rw (e, f) (row_cell a ok plain q s (omega arith) (omega (arith, ok.sized.area, e)));
    }

pub row_refused : {a : Access} {k n : ℕ} → Row a clamped.Refused k n → 0 < n → element_outcome a k ≡ refused outside_undefined
row_refused {a} {k} r h = rw (add-zero k) at (r.each 0 h)

-- elements of one outcome, which is no byte
pub flat_passed : (a : Access) {k placed : ℕ} {entries : List ℕ} (o : Outcome) (n : ℕ) → k + n ≤ elements_of a
    → ((i : ℕ) → i < n → element_outcome a (k + i) ≡ answered o) → placed_one o ≡ 0 → Passed (element_outcome a) (elements_of a) k placed entries
    → Passed (element_outcome a) (elements_of a) (k + n) placed (line entries k (λ (i : ℕ). entry_of o) n)
flat_passed a {k} {placed} o n h at none inv =
    let q : placed ≡ placed + n * 0 = omega arith in
    rw q
    (passed_line (element_outcome a) (λ (i : ℕ). entry_of o) 0 (omega arith) n inv h
    (record {
      fine = λ i l. ap (λ (z : Located). z.refusal) (at i l);
      entry = λ i l. sym (ap (λ (z : Located). entry_of z.outcome) (at i l));
      placed = λ i l. sym (ap (λ (z : Located). placed_one z.outcome) (at i l) ∙ none);
    }))

-- a row of such elements
pub same_passed : {a : Access} {before : Clamped} {k n placed : ℕ} {entries : List ℕ} (o : Outcome) → Row a before k n
    → ((s : ℕ) → cell_of a before s ≡ answered o) → placed_one o ≡ 0 → Passed (element_outcome a) (elements_of a) k placed entries
    → Passed (element_outcome a) (elements_of a) (k + n) placed (line entries k (λ (i : ℕ). entry_of o) n)
same_passed {a} {n = n} o r e none inv = flat_passed a o n r.inside (λ i l. r.each i l ∙ e i) none inv

-- all elements outside the last dimension have this outcome, whatever the dimensions before it give
pub record Far (a : Access) (far : ℕ) : Type 0 where
  pub outcome : Outcome
  pub entry : entry_of outcome ≡ far
  pub none : placed_one outcome ≡ 0
  pub each : (before : Clamped) (s : ℕ) → AtOr (stop_of a.load a.layout.mode) before → Out (last_of a.layout) s → cell_of a before s ≡ answered outcome

part_out : (load : Bool) (mode : ClampMode) (d : Dimension) (s : ℕ) (z : Clamped) → Out d s → outside load mode (negsuc 0) 1 ≡ z → Flat z
    → part load mode d s ≡ scaled d z
unfolding part
part_out load mode d s z o e f =
    ap (scaled d) (o load mode ∙ outside_flat load mode (negsuc 0) (coordinate_of d s) 1 d.size (subst Flat (sym e) f) ∙ e)

far_cell : (a : Access) (before : Clamped) (s : ℕ) (z : Clamped) → AtOr (stop_of a.load a.layout.mode) before
    → part a.load a.layout.mode (last_of a.layout) s ≡ z → stop_of a.load a.layout.mode ≡ z → ((n : ℕ) → plus (clamped.At n) z ≡ z)
    → cell_of a before s ≡ settled a z
far_cell a before s z b e f after =
    let q : plus before (part a.load a.layout.mode (last_of a.layout) s) ≡ z = rw e (plus_stop (stop_of a.load a.layout.mode) before z b f after) in
    ap (settled a) q

module _ (a : Access) where
  stop_is : (s : ℕ) (z : Clamped) → part a.load a.layout.mode (last_of a.layout) s ≡ z → AtOr (stop_of a.load a.layout.mode) z
  stop_is s z e = subst (AtOr (stop_of a.load a.layout.mode)) e (part_one a.load a.layout.mode (last_of a.layout) s)

  far_by : (z : Clamped) → outside a.load a.layout.mode (negsuc 0) 1 ≡ z → 0 < same_entry_of z → Far a (same_entry_of z)
  far_by clamped.Refused e h = absurd (not-suc-le-zero h)
  far_by clamped.Discarded e h =
      record {
        outcome = Discarded;
        entry = refl;
        none = refl;
        each = λ before s b o.
            let q = part_out a.load a.layout.mode (last_of a.layout) s clamped.Discarded o e tt in
            far_cell a before s clamped.Discarded b q (stop_is s clamped.Discarded q) (λ n. refl);
      }
  far_by clamped.Filled e h =
      record {
        outcome = Filled (low_bits a);
        entry = refl;
        none = refl;
        each = λ before s b o.
            let q = part_out a.load a.layout.mode (last_of a.layout) s clamped.Filled o e tt in
            far_cell a before s clamped.Filled b q (stop_is s clamped.Filled q) (λ n. refl);
      }
  far_by (clamped.At x) e h = absurd (not-suc-le-zero h)

  pub far_all : {far : ℕ} → far ≡ far_of a → 0 < far → Far a far
  far_all e h = rw e (far_by (outside a.load a.layout.mode (negsuc 0) 1) refl (rw e at h))

  -- a part of a row that is outside
  pub far_passed : {x : Dimension} {t k from to placed far : ℕ} {entries : List ℕ} → x ≡ last_of a.layout → Row a (clamped.At t) k to → from ≤ to
      → ((s : ℕ) → from ≤ s → s < to → Out x s) → Far a far → Passed (element_outcome a) (elements_of a) (k + from) placed entries
      → Passed (element_outcome a) (elements_of a) (k + to) placed (line entries (k + from) (λ (i : ℕ). far) (to - from))
  far_passed {x} {t} {k} {from} {to} {placed} {far} {entries} last row h out f inv =
      let q : k + to ≡ k + from + (to - from) = omega arith in
      let at : (i : ℕ) → i < to - from → element_outcome a (k + from + i) ≡ answered f.outcome =
      λ i l. let e : k + from + i ≡ k + (from + i) = omega arith in
      rw e (row.each (from + i) (omega arith)
      ∙ f.each (clamped.At t) (from + i) tt (subst (λ (d : Dimension). Out d (from + i)) last (out (from + i) (omega arith) (omega arith)))) in
      rw (q, ← f.entry) (flat_passed a f.outcome (to - from) (omega (arith, row.inside)) at f.none inv)

  -- every element, where all span coordinates are outside
  pub far_every : {far : ℕ} → ValidAccess a → a.viewed ≡ false → ((s : ℕ) → s < (last_of a.layout).span → Out (last_of a.layout) s) → Far a far
      → (entries : List ℕ) → length entries ≡ matrix_places
      → Passed (element_outcome a) (elements_of a) (elements_of a) 0 (line entries 0 (λ (i : ℕ). far) (elements_of a))
  unfolding element_outcome
  far_every {far} ok plain out f entries room =
      let span = (last_of a.layout).span in
      let some : 0 < span = (layout_span a.layout ok.sized.layout (a.layout.rank - 1) (omega (arith, layout_some a.layout ok.sized.layout))).some in
      let at : (i : ℕ) → i < elements_of a → element_outcome a (0 + i) ≡ answered f.outcome =
      λ i l. let e : i / span * span + i % span ≡ i = div-add-mod' i span in
      rw zero-add
      (ap (λ (j : ℕ). located a (j / a.columns) (j % a.columns)) (sym e)
      ∙ row_cell a ok plain (i / span) (i % span) (mod-lt i some) (omega (arith, e, ok.sized.area))
      ∙ f.each (up_to a.load a.layout (a.layout.rank - 1) (i / span)) (i % span) (up_one a.load a.layout (a.layout.rank - 1) (i / span)) (out (i % span) (mod-lt i some))) in
      let all = flat_passed a f.outcome (elements_of a) (omega arith) at f.none (passed_none (element_outcome a) (elements_of a) entries ok.sized.area room) in
      rw (← f.entry) (rw zero-add at all)

-- the bytes of a row inside rise by a step
placed_at : (a : Access) (t y b : ℕ) → b ≡ a.base + (t + y) * a.size → b + a.size ≤ a.memory
    → settled a (plus (clamped.At t) (clamped.At y)) ≡ answered (Placed b)
unfolding addressed pick
placed_at a t y b e h = rw (← e, le-leb (b + a.size) a.memory h)

even_byte : (base t first i stride size : ℕ) → base + (t + first * stride) * size + i * (stride * size) ≡ base + (t + (first + i) * stride) * size
even_byte base t first i stride size =
    let e : t + (first + i) * stride ≡ t + first * stride + i * stride = omega (arith, add-mul first i stride) in
    rw e (omega (arith, add-mul (t + first * stride) (i * stride) size, mul_assoc i stride size))

module _ (a : Access) {x : Dimension} {inner : Inner} {t k from to byte step : ℕ} (last : x ≡ last_of a.layout)
    (row : Row a (clamped.At t) k to) (within : Inside x inner) (h : from < to) (starts : from ≡ inner.from) (ends : to ≤ inner.to)
    (b : byte ≡ a.base + (t + inner.first * x.stride) * a.size) (d : step ≡ x.stride * a.size) (even : Even x.block a.size a.memory byte step (to - from)) where
  cell_placed : (i : ℕ) → i < to - from → cell_of a (clamped.At t) (from + i) ≡ answered (Placed (byte + i * step))
  cell_placed i l =
      let p : part a.load a.layout.mode (last_of a.layout) (from + i) ≡ clamped.At ((inner.first + i) * x.stride) =
      rw (← last, starts) (within.each a.load a.layout.mode i (omega arith)
      ∙ ap (λ (y : ℕ). clamped.At (y * x.stride)) (rw even.flat (div-one (inner.first + i)))) in
      ap (λ (z : Clamped). settled a (plus (clamped.At t) z)) p
      ∙ placed_at a t ((inner.first + i) * x.stride) (byte + i * step)
      (rw (b, d) (even_byte a.base t inner.first i x.stride a.size))
      (let m : i ≤ to - from - 1 = omega arith in omega (arith, even.fits, mul-le-mul_right step m))

  pub even_passed : {placed : ℕ} {entries : List ℕ} → Passed (element_outcome a) (elements_of a) (k + from) placed entries
      → Passed (element_outcome a) (elements_of a) (k + to) (placed + (to - from)) (line entries (k + from) (λ (i : ℕ). byte + i * step + 1) (to - from))
  even_passed {placed} inv =
      let at : (i : ℕ) → i < to - from → element_outcome a (k + from + i) ≡ answered (Placed (byte + i * step)) =
      λ i l. let e : k + from + i ≡ k + (from + i) = omega arith in rw e (row.each (from + i) (omega arith) ∙ cell_placed i l) in
      let q : k + to ≡ k + from + (to - from) = omega arith in
      let g : placed + (to - from) ≡ placed + (to - from) * 1 = omega arith in
      rw (q, g)
      (passed_line (element_outcome a) (λ (i : ℕ). byte + i * step + 1) 1 (omega arith) (to - from) inv (omega (arith, row.inside))
      (record {
        fine = λ i l. ap (λ (z : Located). z.refusal) (at i l);
        entry = λ i l. sym (ap (λ (z : Located). entry_of z.outcome) (at i l));
        placed = λ i l. sym (ap (λ (z : Located). placed_one z.outcome) (at i l));
      }))
