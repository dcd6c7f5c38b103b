-- What rule 4 gives: a place of the dimension, or what all coordinates outside have in common.
use Rattle.std.specs.Prelude.{ℕ, ◌-◌, ◌*◌, ◌<◌, ◌≤◌, ◌≡◌, refl, Bool, true, false, leb, eqb, ℤ, pos, negsuc}
use Rattle.std.proofs.Common.{arith, leb-true, leb-false}
use Rattle.std.proofs.lemmas.Bool.{eqb-false}
use Rattle.numbers.specs.Choice.{pick}
use Rattle.numbers.specs.Laws.Choice.{pick_case}
use Rattle.numbers.specs.Remainders.{remainder}
use Rattle.numbers.specs.Laws.Remainders.{remainder_lt}
use Rattle.sheet.specs.declared.ClampMode.{ClampMode}
use Rattle.sheet.specs.declared.ClampMode.TheVariants.{Undefined, Constant, ClampToEdge, Repeat, MirrorRepeat}
use Rattle.clamps.specs.declared.Clamped.{Clamped}
use Rattle.clamps.specs.declared.Clamped.TheVariants.{Refused, Discarded, Filled, At}
use Rattle.clamps.specs.Clamps.{turned_back, mirrored, on_load, on_store, outside, clamped}

-- a law of what rule 4 gives, from the same for what it gives outside and for a coordinate that stays
pub by_clamped : (P : Clamped → Type 0) (load : Bool) (mode : ClampMode) (c : ℤ) (n : ℕ)
    → (load ≡ true → P (on_load mode c n)) → (load ≡ false → P (on_store mode)) → ((a : ℕ) → a < n → P (At a)) → P (clamped load mode c n)
unfolding clamped outside
by_clamped P load mode (negsuc a) n f g h = pick_case P load _ _ f g
by_clamped P load mode (pos a) n f g h = pick_case P (leb n a) _ _ (λ t. pick_case P load _ _ f g) (λ t. h a (leb-false _ _ t))

-- a coordinate that is there is below n
abbrev Under : ℕ → Clamped → Type 0
Under n Refused = Unit {0}
Under n Discarded = Unit {0}
Under n Filled = Unit {0}
Under n (At x) = x < n

mirrored_lt : (c : ℤ) {n : ℕ} → 0 < n → mirrored c n < n
unfolding mirrored turned_back
mirrored_lt c {n} h =
    let m = 2 * n - 2 in
    pick_case (λ (x : ℕ). x < n) (eqb n 1) _ _ (λ e. h)
    (λ e. let g : n ≡ 1 → ⊥ = eqb-false n 1 e in
    let r : remainder c (2 * n - 2) < 2 * n - 2 = remainder_lt c (omega arith) in
    pick_case (λ (x : ℕ). x < n) (leb n (remainder c m)) _ _ (λ t. let u : n ≤ remainder c m = leb-true _ _ t in omega arith) (λ t. leb-false _ _ t))

on_load_under : (mode : ClampMode) (c : ℤ) {n : ℕ} → 0 < n → Under n (on_load mode c n)
on_load_under Undefined c h = tt
on_load_under Constant c h = tt
on_load_under ClampToEdge (pos a) h = omega arith
on_load_under ClampToEdge (negsuc a) h = h
on_load_under Repeat c h = remainder_lt c h
on_load_under MirrorRepeat c h = mirrored_lt c h

on_store_under : (mode : ClampMode) (n : ℕ) → Under n (on_store mode)
on_store_under Undefined n = tt
on_store_under Constant n = tt
on_store_under ClampToEdge n = tt
on_store_under Repeat n = tt
on_store_under MirrorRepeat n = tt

pub clamped_lt : (load : Bool) (mode : ClampMode) (c : ℤ) (n : ℕ) {x : ℕ} → 0 < n → clamped load mode c n ≡ At x → x < n
clamped_lt load mode c n h e =
    rw e at (by_clamped (Under n) load mode c n (λ t. on_load_under mode c h) (λ t. on_store_under mode n) (λ a l. l))

-- outside there is a place to go to only by the mode: any other answer is the same for all coordinates outside
abbrev pub Flat : Clamped → Type 0
Flat Refused = Unit {0}
Flat Discarded = Unit {0}
Flat Filled = Unit {0}
Flat (At x) = ⊥

pub outside_flat : (load : Bool) (mode : ClampMode) (c e : ℤ) (n m : ℕ) → Flat (outside load mode c n) → outside load mode e m ≡ outside load mode c n
unfolding outside pick
outside_flat false mode c e n m h = refl
outside_flat true Undefined c e n m h = refl
outside_flat true Constant c e n m h = refl
outside_flat true ClampToEdge c e n m h = absurd h
outside_flat true Repeat c e n m h = absurd h
outside_flat true MirrorRepeat c e n m h = absurd h

-- what all coordinates outside have in common
abbrev load_stop : ClampMode → Clamped
load_stop Undefined = Refused
load_stop Constant = Filled
load_stop ClampToEdge = Refused
load_stop Repeat = Refused
load_stop MirrorRepeat = Refused

abbrev pub stop_of : Bool → ClampMode → Clamped
stop_of true mode = load_stop mode
stop_of false mode = on_store mode

-- an index, or z
abbrev pub AtOr : Clamped → Clamped → Type 0
AtOr z (At x) = Unit {0}
AtOr z Refused = z ≡ Refused
AtOr z Discarded = z ≡ Discarded
AtOr z Filled = z ≡ Filled

on_load_one : (load : Bool) (mode : ClampMode) (c : ℤ) (n : ℕ) → load ≡ true → AtOr (stop_of load mode) (on_load mode c n)
on_load_one load Undefined c n e = rw e refl
on_load_one load Constant c n e = rw e refl
on_load_one load ClampToEdge c n e = tt
on_load_one load Repeat c n e = tt
on_load_one load MirrorRepeat c n e = tt

on_store_one : (load : Bool) (mode : ClampMode) → load ≡ false → AtOr (stop_of load mode) (on_store mode)
on_store_one load Undefined e = rw e refl
on_store_one load Constant e = rw e refl
on_store_one load ClampToEdge e = rw e refl
on_store_one load Repeat e = rw e refl
on_store_one load MirrorRepeat e = rw e refl

pub clamped_one : (load : Bool) (mode : ClampMode) (c : ℤ) (n : ℕ) → AtOr (stop_of load mode) (clamped load mode c n)
clamped_one load mode c n =
    by_clamped (AtOr (stop_of load mode)) load mode c n (on_load_one load mode c n) (on_store_one load mode) (λ a l. tt)

-- it fills on a load and discards on a store
abbrev pub ByLoad : Bool → Clamped → Type 0
ByLoad load Refused = Unit {0}
ByLoad load Discarded = load ≡ false
ByLoad load Filled = load ≡ true
ByLoad load (At x) = Unit {0}

on_load_by : (mode : ClampMode) (c : ℤ) (n : ℕ) (load : Bool) → load ≡ true → ByLoad load (on_load mode c n)
on_load_by Undefined c n load e = tt
on_load_by Constant c n load e = e
on_load_by ClampToEdge c n load e = tt
on_load_by Repeat c n load e = tt
on_load_by MirrorRepeat c n load e = tt

on_store_by : (mode : ClampMode) (load : Bool) → load ≡ false → ByLoad load (on_store mode)
on_store_by Undefined load e = tt
on_store_by Constant load e = e
on_store_by ClampToEdge load e = e
on_store_by Repeat load e = e
on_store_by MirrorRepeat load e = e

pub clamped_by : (load : Bool) (mode : ClampMode) (c : ℤ) (n : ℕ) → ByLoad load (clamped load mode c n)
clamped_by load mode c n = by_clamped (ByLoad load) load mode c n (on_load_by mode c n load) (on_store_by mode load) (λ a l. tt)
