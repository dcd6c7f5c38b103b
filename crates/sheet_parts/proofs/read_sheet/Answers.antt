use mathlib.Core.Path.{ap, ap₂, ◌∙◌}
use native.Mathlib.Omega.{arith}
use Rattle.refusals.specs.declared.Refusal.{Refusal}
use Rattle.sheet.specs.declared.Sheet.{Sheet}
use Rattle.sheet_reader.specs.Parts.{Outlined}
use Rattle.sheet_reader.specs.declared.Given.{Given}
use Rattle.sheet_reader.specs.declared.Outline.{Outline}
use Rattle.sheet_parts.specs.Laws.{refused_empty}
use Rattle.sheet_parts.proofs.read_sheet.Goals as goal
use Rattle.sheet_parts.proofs.read_sheet.Goals.{Else-refusal-gt0}

-- a reading that is not refused
outlined : (c : Else-refusal-gt0) → Outlined c.args.s.now c.outline_sheet-read.new.parts c.outline_sheet-read.result.given
outlined c = c.outline_sheet-read.ensures.outlined (omega (arith, c.if-refusal-gt0.false))

pub returns-then-refusal-gt0 : goal.returns-then-refusal-gt0
returns-then-refusal-gt0 c =
    let e = ap (λ (x : Outline). x.refusal) c.outline_sheet-read.ensures.value in
    ap₂ (λ (r : Refusal) (sh : Sheet). record { refusal = r; sheet = sh }) e
    (c.empty_sheet.ensures ∙ refused_empty _ (rw e at c.if-refusal-gt0.true))

pub all_layouts-layout-requires : goal.all_layouts-layout-requires
all_layouts-layout-requires c =
    let o = outlined (goal.at.all_layouts-layout-requires c).Else-refusal-gt0 in
    ((_, o), ap (λ (g : Given). g.layouts) o.given)

pub all_views-view-requires : goal.all_views-view-requires
all_views-view-requires c =
    let o = outlined (goal.at.all_views-view-requires c).Else-refusal-gt0 in
    ((_, o), ap (λ (g : Given). g.views) o.given)

pub all_steps-step-requires : goal.all_steps-step-requires
all_steps-step-requires c = outlined (goal.at.all_steps-step-requires c).Else-refusal-gt0

pub returns : goal.returns
returns c =
    let e = ap (λ (x : Outline). x.refusal) c.outline_sheet-read.ensures.value in
    let o = outlined (goal.at.returns c).Else-refusal-gt0 in
    λ i.
    record {
      refusal = e i;
      sheet =
          record {
            edition = (o.given i).edition;
            tensors =
                record {
                  layouts = (o.given i).layouts;
                  layout = c.all_layouts-layout.ensures i;
                  views = (o.given i).views;
                  view = c.all_views-view.ensures i;
                };
            steps = (o.given i).steps;
            step = c.all_steps-step.ensures i;
          };
    }
