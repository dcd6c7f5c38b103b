-- The theorems about reading and writing, each for every model and every list of bytes.
use Rattle.std.specs.Prelude.{ℕ, ◌+◌, ◌<◌, ◌≤◌, ◌≡◌, refl, true, ◌↔◌, List, leb, length, get_or, take, drop}
use Rattle.std.proofs.Common.{ap, ◌∙◌, arith, leb-true, take_at, take_all, length-take-le, get_or-take}
use Rattle.std.proofs.lemmas.List.Edits.{sets, sets-eq}
use Rattle.numbers.specs.Choice.{pick}
use Rattle.numbers.specs.Laws.Choice.{by_test, by_order}
use Rattle.numbers.specs.Bytes.{AreBytes}
use Rattle.sheet_ranges.specs.Sheets.{writable}
use Rattle.sheet_ranges.specs.Laws.Within.{within, within_writable}
use Rattle.sheet.specs.declared.Sheet.{Sheet}
use Rattle.sheet_reader.specs.Reading.{refused_read, accepted_read, read_sheet}
use Rattle.sheet_reader.specs.declared.ReadAnswer.{ReadAnswer}
use Rattle.sheet_writer.specs.Bytes.{sheet_bytes}
use Rattle.sheet_writer.specs.Writing.{written, written_room}
use Rattle.round_trip.specs.Typed.{Typed}
use Rattle.round_trip.specs.Longest.{longest, enough}
use Rattle.fields.specs.Laws.Stretches.{has_all}
use Rattle.round_trip.proofs.Laws.Sheets.{sheet_short}
use Rattle.round_trip.proofs.Laws.Growing.{GrownFrom, reading}
use Rattle.round_trip.proofs.Laws.Returning.{reads_back}
use Rattle.round_trip.proofs.Laws.Written.{sheet_bytes_lem}
use Rattle.round_trip.proofs.Laws.Prefixes.{same_answer}

-- What is written reads back: the bytes of a writable model read as that model.
pub written_reads_back : (sh : Sheet) → Typed sh → writable sh ≡ true → read_sheet (sheet_bytes sh) ≡ accepted_read sh
written_reads_back sh t e = reads_back sh (within sh e) t.arrays

-- the bytes that were written at a room's start are its first ones
taken_back : (out bs : List ℕ) → length bs ≤ length out → take (length bs) (sets out 0 bs) ≡ bs
taken_back out bs h = ap (take (length bs)) (sets-eq bs out 0 (omega arith)) ∙ take_at bs (drop (0 + length bs) out) (length bs) refl

-- So on slices: wherever writing was not refused, the bytes that it counts at the start of the room read as the model.
pub room_reads_back : (sh : Sheet) (room : List ℕ) → Typed sh → (written sh (length room)).refusal.number ≡ 0 → read_sheet (take (written sh (length room)).bytes (written_room sh room)) ≡ accepted_read sh
unfolding written written_room pick
room_reads_back sh room t e =
    by_test (writable sh)
    (λ w.
    by_test (leb (length (sheet_bytes sh)) (length room))
    (λ r. rw (w, r) (ap read_sheet (taken_back room (sheet_bytes sh) (leb-true _ _ r)) ∙ written_reads_back sh t w))
    (λ r. let z = rw (w, r) at e in absurd (omega arith)))
    (λ w. let z = rw w at e in absurd (omega arith))

-- what an accepted sheet has grown from
grown_from : (s : List ℕ) (sh : Sheet) → read_sheet s ≡ accepted_read sh → GrownFrom s (length s) sh
unfolding refused_read accepted_read
grown_from s sh e =
    reading s (λ (r : ReadAnswer). r ≡ accepted_read sh → GrownFrom s (length s) sh)
    (λ n at h m l q. let z : n ≡ 0 = ap (λ (r : ReadAnswer). r.refusal.number) q in absurd (omega arith))
    (λ sh' g q. let z : sh' ≡ sh = ap (λ (r : ReadAnswer). r.sheet) q in rw z at g) e

-- What was read writes back: a sheet that reads as a model gives a writable one, and the model's bytes are the sheet's.
pub record WritesBack (s : List ℕ) (sh : Sheet) : Type 0 where
  pub allowed : writable sh ≡ true
  pub same : sheet_bytes sh ≡ s
  pub typed : Typed sh

pub read_writes_back : (s : List ℕ) (sh : Sheet) → AreBytes s → read_sheet s ≡ accepted_read sh → WritesBack s sh
read_writes_back s sh b e =
    let f = grown_from s sh e in
    let p = f.grown.places in
    record {
      allowed = within_writable sh f.grown.within;
      same = has_all s (sheet_bytes sh) f.ends (f.stands b);
      typed =
          record {
            arrays = record { layout = p.layout; view = p.view; step = p.step; layouts = f.layouts; views = f.views };
            fits = f.fits b;
          };
    }

-- A model is writable exactly when some sheet reads as it.
pub writable_exactly : (sh : Sheet) → Typed sh → (writable sh ≡ true) ↔ ((s : List ℕ) × AreBytes s × (read_sheet s ≡ accepted_read sh))
writable_exactly sh t = (
  λ e. (sheet_bytes sh, sheet_bytes_lem sh (within sh e) t.fits, written_reads_back sh t e),
  λ w. (read_writes_back w.0 sh w.1 w.2).allowed,
)

-- Places are small: an accepted sheet is no longer than the longest, and the place of a refusal is no further.
pub accepted_short : (s : List ℕ) (sh : Sheet) → read_sheet s ≡ accepted_read sh → length s ≤ longest
accepted_short s sh e = let f = grown_from s sh e in rw f.ends (sheet_short sh f.grown.within)

pub place_small : (s : List ℕ) → (read_sheet s).refusal.place ≤ longest
unfolding refused_read accepted_read
place_small s = reading s (λ (r : ReadAnswer). r.refusal.place ≤ longest) (λ n at h m l. l) (λ sh g. omega arith)

-- What is past a prefix cannot change the answer: two sheets of `enough` bytes or more that agree in so many read alike, and so a prefix of
-- so many bytes reads as the whole.
pub prefix_decides : (s t : List ℕ) → AreBytes s → AreBytes t → enough ≤ length s → enough ≤ length t → ((i : ℕ) → i < enough → get_or s i 0 ≡ get_or t i 0) → read_sheet s ≡ read_sheet t
prefix_decides s t bs bt ls lt e = same_answer s t bs bt e ls lt

pub prefix_reads : (s : List ℕ) (n : ℕ) → AreBytes s → enough ≤ n → read_sheet (take n s) ≡ read_sheet s
prefix_reads s n b h =
    by_order n (length s)
    (λ l.
    let k : length (take n s) ≡ n = length-take-le n s (omega arith) in
    prefix_decides (take n s) s
    (λ i m. let j : i < n = omega arith in rw (get_or-take n s i 0 j) (b i (omega arith)))
    b (omega arith) (omega arith)
    (λ i m. let j : i < n = omega arith in get_or-take n s i 0 j))
    (λ l. rw (take_all n s l))
