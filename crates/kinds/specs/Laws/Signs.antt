-- The two halves of a signed kind's bits: the lower stand for themselves, the upper are below 0.
use Rattle.std.specs.Prelude.{◌≡◌, refl, true, pos, negsuc}
use Prim.Native.Nat.{ℕ, suc, ◌*◌, ◌-◌, ◌^◌, ◌<◌, ◌≤◌, zero-le}
use Rattle.std.proofs.Math.Nat.{sub-zero}
use borrow.Author.Tests.{lt-ltb, le-ltb, le-leb, lt-leb}
use Rattle.numbers.specs.Choice.{pick, both}
use Rattle.numbers.specs.Laws.Choice.{by_test}
use Rattle.kinds.specs.Widths.{width, s16, s32}
use Rattle.kinds.specs.Values.{signed, negative, taken, value}

module _ (kind x : ℕ) where
  none_taken : 2 * x < 2 ^ width kind → taken kind x ≡ 0
  unfolding taken negative both pick
  none_taken h = by_test (signed kind) (λ e. rw (e, lt-leb (2 ^ width kind) (2 * x) h)) (λ e. rw e)

  pub value_lower : 2 * x < 2 ^ width kind → value kind x ≡ pos x
  unfolding value
  value_lower h = rw (none_taken h, le-ltb x 0 zero-le, sub-zero x)

  pub value_upper : signed kind ≡ true → 2 ^ width kind ≤ 2 * x → x < 2 ^ width kind → value kind x ≡ negsuc (2 ^ width kind - suc x)
  unfolding value taken negative both pick
  value_upper e h l = rw (e, le-leb (2 ^ width kind) (2 * x) h, lt-ltb x (2 ^ width kind) l)

pub width_s16 : width s16 ≡ 16
unfolding width pick
width_s16 = refl

pub width_s32 : width s32 ≡ 32
unfolding width pick
width_s32 = refl
