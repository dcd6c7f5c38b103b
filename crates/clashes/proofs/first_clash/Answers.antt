use mathlib.Core.Path.{◌≡◌, refl, sym, ◌∙◌}
use native.Mathlib.Nat.{sub-zero}
use native.Mathlib.Omega.{arith}
use Rattle.clashes.specs.Entries.{same_entry}
use Rattle.clashes.proofs.Laws.{meets_none, meets_miss, clash_on, clash_found, clash_none}
use Rattle.clashes.proofs.first_clash.Goals as goal

pub search-init : goal.search-init
search-init c = (refl, rw sub-zero)

pub loop-j-init : goal.loop-j-init
loop-j-init c = (c.search.invariant.0, meets_none _ _)

pub loop-j-preserved : goal.loop-j-preserved
loop-j-preserved c = (
  c.loop-j.invariant.0,
  meets_miss (same_entry c.args.entries.now) _ _ (sym c.same_byte.ensures ∙ c.if-same_byte.false) c.loop-j.invariant.1,
)

pub search-preserved : goal.search-preserved
search-preserved c = (
  c.loop-j.invariant.0,
  clash_on _ _ _ c.search.invariant.1 c.loop-j.j (omega arith) (omega arith) (omega arith) c.loop-j.invariant.1,
)

pub returns-after-search : goal.returns-after-search
returns-after-search c =
    let e : c.search.clash ≡ c.search.i = omega arith in
    e ∙ clash_none _ _ _ c.search.invariant.1 (omega arith)

pub returns-then-same_byte : goal.returns-then-same_byte
returns-then-same_byte c =
    clash_found _ _ _ c.search.invariant.1 c.loop-j.j (omega arith) (omega arith) (sym c.same_byte.ensures ∙ c.if-same_byte.true)
