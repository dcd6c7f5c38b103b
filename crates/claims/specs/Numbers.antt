-- Which refusals each routine gives, by their numbers.
use Rattle.std.specs.Prelude.{ℕ, ◌≤◌, ◌≡◌, ◌⊎◌}
use Rattle.refusals.specs.Refusals.{cut_short, unknown_tag, wrong_length, beyond_sizes, unknown_edition, empty_register, byte_twice, tape_too_long, record_out_of_range, memory_too_large, room_too_short, not_after}

-- not refused, or refused with such a number
abbrev pub Only : (ℕ → Type 0) → ℕ → Type 0
Only N n = (n ≡ 0) ⊎ N n

abbrev pub FromTo : ℕ → ℕ → ℕ → Type 0
FromTo low high n = (low ≤ n) × (n ≤ high)

-- reading gives 1 to 6 only
abbrev pub OfReading : ℕ → Type 0
OfReading n = FromTo cut_short unknown_edition n

-- writing 5 and 19
abbrev pub OfWriting : ℕ → Type 0
OfWriting n = (n ≡ beyond_sizes) ⊎ (n ≡ room_too_short)

-- a step 7 to 15
abbrev pub OfSteps : ℕ → Type 0
OfSteps n = FromTo empty_register byte_twice n

-- the check and carrying out 18 and 1 to 15
abbrev pub OfCheck : ℕ → Type 0
OfCheck n = (n ≡ memory_too_large) ⊎ FromTo cut_short byte_twice n

-- translating also 16
abbrev pub OfTranslating : ℕ → Type 0
OfTranslating n = OfCheck n ⊎ (n ≡ tape_too_long)

-- running 18, the sheet's reading, then 17 only
abbrev pub OfRunning : ℕ → Type 0
OfRunning n = (n ≡ memory_too_large) ⊎ (OfReading n ⊎ (n ≡ record_out_of_range))

-- tracing those of the check, then 19
abbrev pub OfTracing : ℕ → Type 0
OfTracing n = OfCheck n ⊎ (n ≡ room_too_short)

-- the fields of a trace 1, 2, 4, 5 and 26
abbrev pub OfTrace : ℕ → Type 0
OfTrace n = (n ≡ cut_short) ⊎ ((n ≡ unknown_tag) ⊎ ((n ≡ wrong_length) ⊎ ((n ≡ beyond_sizes) ⊎ (n ≡ not_after))))

-- replaying those of the check, then the trace's
abbrev pub OfReplaying : ℕ → Type 0
OfReplaying n = OfCheck n ⊎ OfTrace n
