-- A reading that tells where the parts stand, turn by turn.
use Rattle.std.specs.Prelude.{ℕ, suc, ◌+◌, ◌-◌, ◌≤◌, ◌<◌, ◌≡◌, refl, List, length}
use Rattle.std.proofs.Math.Path.{sym, ap, subst}
use Rattle.std.proofs.Common.{◌∙◌, inl, inr, arith, lt-ltb, le-ltb}
use Rattle.numbers.specs.Laws.Choice.{taken, left}
use Rattle.refusals.specs.Refusals.{cut_short, out_of_order, not_refused}
use Rattle.sheet_ranges.specs.Sheets.{empty_sheet}
use Rattle.sheet.specs.declared.Sheet.{Sheet}
use Rattle.fields.specs.Fields.{field_at}
use Rattle.fields.specs.declared.Cursor.{Cursor}
use Rattle.fields.specs.declared.Field.TheVariants.{Whole, Short}
use Rattle.fields.specs.Laws.Bounds.{field_in}
use Rattle.sheet_reader.specs.Reading.{given_of, field_refusal, with_field, refused_read, accepted_read, end_read, read_from, read_sheet}
use Rattle.sheet_reader.specs.Parts.{part_places, more_given, more_parts, outline_of, Stands, Outlined}
use Rattle.sheet_reader.specs.Laws.Taken.{Took, took}
use Rattle.sheet_reader.specs.Laws.Turns.{turn_on, turn_over, turn_end, turn_short, turn_refused, turn_next}
use Rattle.sheet_reader.specs.Laws.Growing.{SoFar, so_grown}
use Rattle.sheet_reader.specs.Laws.Parts.{more_given_lem, empty_stands, so_stands}
use Rattle.sheet_reader.specs.declared.Given.{Given}
use Rattle.sheet_reader.specs.declared.Outline.{Outline}
use Rattle.sheet_reader.specs.declared.ReadAnswer.{ReadAnswer}

-- a reading on its way: the sheet so far, what it has and where its parts stand; what is left to read is the whole
pub record Outlining (s parts : List ℕ) (at : ℕ) (g : Given) : Type 0 where
  pub sheet : Sheet
  pub turns : ℕ
  pub inside : at ≤ length s
  pub enough : length s < at + turns
  pub left : read_from turns s at sheet ≡ read_sheet s
  pub given : g ≡ given_of sheet
  pub grown : SoFar sheet
  pub stands : Stands s sheet parts

pub outlining_start : (s parts : List ℕ) (g : Given) → length parts ≡ part_places → g ≡ given_of empty_sheet → Outlining s parts 0 g
unfolding read_sheet
outlining_start s parts g h e =
    record {
      sheet = empty_sheet;
      turns = suc (length s);
      inside = omega arith;
      enough = omega arith;
      left = refl;
      given = e;
      grown = inl refl;
      stands = empty_stands s parts h;
    }

module _ (s parts : List ℕ) (at : ℕ) (g : Given) (o : Outlining s parts at g) where
  some : 0 < o.turns
  some = omega (arith, o.inside, o.enough)

  -- the ways in which it is over
  pub outlining_short : at < length s → field_at s at ≡ Short → refused_read cut_short at ≡ read_sheet s
  outlining_short h e = sym (turn_over s at o.sheet o.turns some (turn_short s at o.sheet h e)) ∙ o.left

  over_end : length s ≤ at → {r : ReadAnswer} → r ≡ end_read o.sheet (length s) → r ≡ read_sheet s
  over_end h e = e ∙ sym (turn_over s at o.sheet o.turns some (turn_end s at o.sheet h)) ∙ o.left

  pub outlining_bare : length s ≤ at → g.edition < 1 → refused_read out_of_order (length s) ≡ read_sheet s
  unfolding end_read
  outlining_bare h n = over_end h (taken _ (lt-ltb _ _ (rw o.given at n)) refl)

  pub outlining_read : length s ≤ at → 1 ≤ g.edition → accepted_read o.sheet ≡ read_sheet s
  unfolding end_read
  outlining_read h n = over_end h (left _ (le-ltb _ _ (rw o.given at n)) refl)

  pub outlining_end : length s ≤ at → 1 ≤ g.edition → {r : Outline} → r ≡ record { refusal = not_refused; given = g } → (r ≡ outline_of (read_sheet s)) × Outlined s parts r.given
  unfolding accepted_read
  outlining_end h n {r} e =
      let q = outlining_read h n in
      let sheet : o.sheet ≡ (read_sheet s).sheet = ap (λ (x : ReadAnswer). x.sheet) q in
      let given : r.given ≡ g = ap (λ (x : Outline). x.given) e in (
        e ∙ ap (λ (x : Given). record { refusal = not_refused; given = x }) o.given ∙ ap outline_of q,
        record {
          read = sym (ap (λ (x : ReadAnswer). x.refusal.number) q);
          given = given ∙ o.given ∙ ap given_of sheet;
          stands = subst (λ (x : Sheet). Stands s x parts) sheet o.stands;
        },
      )

  -- a field: it is refused, or reading goes on past it
  module _ {tag start len : ℕ} {next : Cursor} (h : at < length s) (e : field_at s at ≡ Whole tag start len next) {n : ℕ} (q : n ≡ field_refusal s tag start len g) where
    judged : n ≡ field_refusal s tag start len (given_of o.sheet)
    judged = q ∙ ap (field_refusal s tag start len) o.given

    pub outlining_refused : 0 < n → refused_read n at ≡ read_sheet s
    outlining_refused p = sym (turn_over s at o.sheet o.turns some (turn_refused s at o.sheet h e judged p)) ∙ o.left

    way : n ≡ 0 → Took s start len (given_of o.sheet) tag
    way z = took s start len (given_of o.sheet) tag (sym judged ∙ z)

    parted : n ≡ 0 → Stands s (with_field s tag start o.sheet) (more_parts tag at (given_of o.sheet) parts)
    parted z =
        let p = (field_in s at tag start len next e).head in
        subst (λ (x : ℕ). Stands s (with_field s tag x o.sheet) (more_parts tag at (given_of o.sheet) parts)) (sym p)
        (so_stands s o.sheet parts at tag len next (subst (λ (x : ℕ). field_at s at ≡ Whole tag x len next) p e) o.grown o.stands
        (subst (λ (x : ℕ). Took s x len (given_of o.sheet) tag) p (way z)))

    pub outlining_next : n ≡ 0 → {g' : Given} {parts' : List ℕ} → g' ≡ more_given s tag start g → parts' ≡ more_parts tag at g parts → Outlining s parts' next.at g'
    outlining_next z {g'} {parts'} f t =
        let p = field_in s at tag start len next e in
        record {
          sheet = with_field s tag start o.sheet;
          turns = o.turns - 1;
          inside = omega (arith, p);
          enough = omega (arith, p, o.inside, o.enough);
          left = sym (turn_on s at o.sheet o.turns some (turn_next s at o.sheet h e judged (omega (arith, z)) refl)) ∙ o.left;
          given = f ∙ ap (more_given s tag start) o.given ∙ more_given_lem s tag start o.sheet;
          grown = inr (so_grown s tag start len o.sheet o.grown (way z));
          stands = subst (Stands s (with_field s tag start o.sheet)) (sym (t ∙ ap (λ (x : Given). more_parts tag at x parts) o.given)) (parted z);
        }

-- a refusal's answer
pub outline_refused : {r : Outline} (s parts : List ℕ) (n at : ℕ) → r ≡ outline_of (refused_read n at) → 0 < n → refused_read n at ≡ read_sheet s
    → (r ≡ outline_of (read_sheet s)) × (r.refusal.number ≡ 0 → Outlined s parts r.given)
unfolding refused_read
outline_refused s parts n at e h q =
    let m = ap (λ (x : Outline). x.refusal.number) e in
    (e ∙ ap outline_of q, λ z. absurd (omega (arith, m, z)))
