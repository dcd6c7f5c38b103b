-- Document 01's strips 1 to 11, one of blocks of 2, and document 02's: a network of vector steps, and a load without an object in two editions. One list:
-- sheets as bytes, each with a memory, what is asked and what is wanted.
use Rattle.std.specs.Prelude.{ℕ, zero, suc, ◌/◌, ◌%◌, ◌≡◌, refl, List, [], ◌∷◌, ◌++◌, map, eqb, length, replicate}
use Rattle.std.proofs.Common.{ap₂}
use Rattle.numbers.specs.Choice.{pick, both, between}
use Rattle.numbers.specs.All.{all}
use Rattle.numbers.specs.Lists.{line}
use Rattle.numbers.specs.First.{first_from}
use Rattle.numbers.specs.Little
use Rattle.kinds.specs.Widths.{width, bytes_of, fits}
use Rattle.kinds.specs.Values.{negative, taken, value}
use Rattle.kinds.specs.Interpretations.{interpretation_ok}
use Rattle.kinds.specs.Sums.{sum_z}
use Rattle.refusals.specs.Refusals.{index_too_large, outside_undefined, byte_twice, refusal_at}
use Rattle.refusals.specs.declared.Refusal.{Refusal}
use Rattle.sheet.specs.Sizes
use Rattle.sheet.specs.Editions
use Rattle.sheet.specs.Codes
use Rattle.tensor_ranges.specs.Layouts
use Rattle.tensor_ranges.specs.Views
use Rattle.sheet_ranges.specs.Steps as model
use Rattle.sheet_ranges.specs.Sheets
use Rattle.fields.specs.Fields
use Rattle.contents.specs.Contents
use Rattle.step_contents.specs.Contents as stepContents
use Rattle.sheet_reader.specs.Reading
use Rattle.memory.specs.Elements.{element_at, with_element}
use Rattle.registers.specs.Registers.{empty_registers, element_of}
use Rattle.combines.specs.Combining
use Rattle.registers.specs.Grids
use Rattle.reduces.specs.Reducing
use Rattle.reduces.specs.Shapes as shapes
use Rattle.vectors.specs.Places
use Rattle.vectors.specs.Refusals as vectors
use Rattle.vectors.specs.Saturation
use Rattle.vectors.specs.Components
use Rattle.vectors.specs.Results
use Rattle.spans.specs.Spans
use Rattle.clamps.specs.Clamps
use Rattle.addressing.specs.Rules
use Rattle.view_indices.specs.Indices
use Rattle.clashes.specs.Clashes as clashes
use Rattle.accesses.specs.Refusals as accesses
use Rattle.transfers.specs.Transfers.{transferred}
use Rattle.checking.specs.Steps as checks
use Rattle.checking.specs.Checking.{checked_from, checked, checked_sheet}
use Rattle.carrying.specs.Steps as steps
use Rattle.carrying.specs.Carrying.{performed_from, performed, carried, carried_memory}

-- what is asked of an accepted sheet: the first n elements of a register, or the bytes of memory afterwards
pub data Question : Type 0 where
  elements : ℕ → ℕ → Question
  bytes : Question

-- the refusal with its place (number, step, element), or what was asked
pub data Answer : Type 0 where
  refused : Refusal → Answer
  accepted : List ℕ → Answer

pub record Strip : Type 0 where
  pub sheet : List ℕ
  pub memory : List ℕ
  pub question : Question
  pub wanted : Answer

-- g k .. g (k + n - 1)
abbrev pub listed : (ℕ → ℕ) → ℕ → ℕ → List ℕ
listed g k zero = []
listed g k (suc n) = g k ∷ listed g (suc k) n

abbrev pub asked : Question → List ℕ → List ℕ → List ℕ
asked (elements register n) es memory = listed (element_of es register) 0 n
asked bytes es memory = memory

-- The fields of a sheet: a tag, a length, a content; numbers of two and of four bytes. Here no length is above 255.
word : ℕ → List ℕ
word x = x % 256 ∷ x / 256 ∷ []

long : ℕ → List ℕ
long x = word x ++ 0 ∷ 0 ∷ []

field : ℕ → List ℕ → List ℕ
field tag content = tag ∷ length content ∷ 0 ∷ content

edition_of : ℕ → List ℕ
edition_of number = field 0x01 (number ∷ [])

edition : List ℕ
edition = edition_of 1

-- a layout of a clamp mode, a clamp value and dimensions
layout : ℕ → ℕ → List (List ℕ) → List ℕ
layout mode clamp ds = field 0x10 (length ds ∷ mode ∷ long clamp ++ joined ds)
  where
    joined : List (List ℕ) → List ℕ
    joined [] = []
    joined (d ∷ ds) = d ++ joined ds

-- block size, dimension, stride, offset (its 16 bits) and span
dimension : ℕ → ℕ → ℕ → ℕ → ℕ → List ℕ
dimension block size stride offset span = word block ++ word size ++ word stride ++ word offset ++ word span

-- a view without dimensions, rows unclipped, by its permutation and clip column offset
view : List ℕ → ℕ → List ℕ
view permutation offset = field 0x11 (length permutation ∷ 0 ∷ permutation ++ word 0 ++ word 65535 ++ word offset ++ word 65535)

-- register 0 filled with a value, rows by columns, u8
fill : ℕ → ℕ → ℕ → List ℕ
fill rows columns value = field 0x20 (0 ∷ rows ∷ columns ∷ 0 ∷ long value)

-- register 1 loaded with object 0 by a layout and a view, or 255 for none, from a base
load : ℕ → ℕ → ℕ → List ℕ
load layout view base = field 0x21 (1 ∷ 0 ∷ layout ∷ view ∷ long base)

-- a register stored by layout 0, no view, base 0
store : ℕ → List ℕ
store register = field 0x22 (register ∷ 0 ∷ 255 ∷ long 0)

-- a vector step: result, its kind, input, interpretation, matrix, M, K and memory layout; stride, offset, bias and its offset
vector : List ℕ → ℕ → ℕ → ℕ → ℕ → List ℕ
vector operands stride offset bias at = field 0x26 (operands ++ word stride ++ long offset ++ bias ∷ long at)

-- the modes
Undefined : ℕ
Undefined = 0

Constant : ℕ
Constant = 1

ClampToEdge : ℕ
ClampToEdge = 2

Repeat : ℕ
Repeat = 3

MirrorRepeat : ℕ
MirrorRepeat = 4

-- 64 bytes of which byte i holds i, as those from k on are
counting_from : ℕ → ℕ → List ℕ
counting_from k n = listed (λ (i : ℕ). i) k n

counting : List ℕ
counting = counting_from 0 64

-- register 0 is filled, register 1 is loaded with object 0 from byte 0, and n of its elements are asked
load_strip : List ℕ → List ℕ → ℕ → ℕ → ℕ → ℕ → Answer → Strip
load_strip layouts views through rows columns n wanted =
    record {
      sheet = edition ++ layouts ++ views ++ fill rows columns 100 ++ load 0 through 0;
      memory = counting;
      question = elements 1 n;
      wanted = wanted;
    }

-- register 0 is filled and stored at byte 0
store_strip : List ℕ → ℕ → ℕ → Answer → Strip
store_strip layouts rows columns wanted =
    record { sheet = edition ++ layouts ++ fill rows columns 100 ++ store 0; memory = counting; question = bytes; wanted = wanted }

-- strips 1 to 6: one layout of n, stride 1, block 1, offset -2, span 8
edged : ℕ → ℕ → ℕ → List ℕ
edged mode clamp n = layout mode clamp (dimension 1 n 1 65534 8 ∷ [])

-- a 1 by 8 load
edge_strip : List ℕ → Answer → Strip
edge_strip layouts wanted = load_strip layouts [] 255 1 8 8 wanted

-- one dimension of n, offset 0
plain : ℕ → ℕ → List ℕ
plain n stride = layout Undefined 0 (dimension 1 n stride 0 n ∷ [])

-- in a sheet of an edition, register 0 is a matrix of 2 by 4 hundreds, and is loaded without an object from byte 16, its columns from 2 on
no_object_strip : ℕ → Answer → Strip
no_object_strip number wanted =
    record {
      sheet = edition_of number ++ plain 8 1 ++ view (0 ∷ []) 2 ++ fill 2 4 100 ++ field 0x21 (0 ∷ 255 ∷ 0 ∷ 0 ∷ long 16);
      memory = counting;
      question = elements 0 8;
      wanted = wanted;
    }

-- six pixels, and two bytes that are not read; 4 by 6 weights of s8, a column a line; 3 by 4 weights of s16, a row a line; three biases
network : List ℕ
network =
    10 ∷ 200 ∷ 30 ∷ 0 ∷ 255 ∷ 5 ∷ 238 ∷ 238
    ∷ 1 ∷ 255 ∷ 0 ∷ 1
    ∷ 0 ∷ 1 ∷ 255 ∷ 0
    ∷ 0 ∷ 0 ∷ 2 ∷ 1
    ∷ 0 ∷ 0 ∷ 5 ∷ 1
    ∷ 1 ∷ 0 ∷ 0 ∷ 0
    ∷ 0 ∷ 2 ∷ 0 ∷ 252
    ∷ 2 ∷ 0 ∷ 255 ∷ 255 ∷ 7 ∷ 0 ∷ 10 ∷ 0
    ∷ 255 ∷ 255 ∷ 1 ∷ 0 ∷ 3 ∷ 0 ∷ 1 ∷ 0
    ∷ 44 ∷ 1 ∷ 212 ∷ 254 ∷ 1 ∷ 0 ∷ 24 ∷ 252
    ∷ 246 ∷ 255 ∷ 255 ∷ 255 ∷ 232 ∷ 3 ∷ 0 ∷ 0 ∷ 244 ∷ 1 ∷ 0 ∷ 0 ∷ []

-- 1: Constant 9
pub constant : Strip
constant =
    edge_strip (edged Constant 9 4) (accepted (9 ∷ 9 ∷ 0 ∷ 1 ∷ 2 ∷ 3 ∷ 9 ∷ 9 ∷ []))

-- 2: ClampToEdge
pub clamp_to_edge : Strip
clamp_to_edge =
    edge_strip (edged ClampToEdge 0 4) (accepted (0 ∷ 0 ∷ 0 ∷ 1 ∷ 2 ∷ 3 ∷ 3 ∷ 3 ∷ []))

-- 3: Repeat
pub repeated : Strip
repeated =
    edge_strip (edged Repeat 0 4) (accepted (2 ∷ 3 ∷ 0 ∷ 1 ∷ 2 ∷ 3 ∷ 0 ∷ 1 ∷ []))

-- 4: MirrorRepeat, and with n 1
pub mirrored : Strip
mirrored =
    edge_strip (edged MirrorRepeat 0 4) (accepted (2 ∷ 1 ∷ 0 ∷ 1 ∷ 2 ∷ 3 ∷ 2 ∷ 1 ∷ []))

pub mirrored_of_one : Strip
mirrored_of_one =
    edge_strip (edged MirrorRepeat 0 1) (accepted (0 ∷ 0 ∷ 0 ∷ 0 ∷ 0 ∷ 0 ∷ 0 ∷ 0 ∷ []))

-- 5: Undefined, step 1 at element 0
pub undefined : Strip
undefined =
    edge_strip (edged Undefined 0 4) (refused (refusal_at outside_undefined 1 0))

-- 6: ClampToEdge store of a register that was loaded with 16 to 23: its elements 2 to 5 go to bytes 0 to 3, no other byte changes
pub clamped_store : Strip
clamped_store =
    record {
      sheet = edition ++ edged ClampToEdge 0 4 ++ plain 8 1 ++ fill 1 8 100 ++ load 1 255 16 ++ store 1;
      memory = counting;
      question = bytes;
      wanted = accepted (18 ∷ 19 ∷ 20 ∷ 21 ∷ counting_from 4 60);
    }

-- 7: a layout of 2 by 3 through a permutation, as 3 by 2
pub permuted : Strip
permuted =
    load_strip (layout Undefined 0 (dimension 1 2 3 0 2 ∷ dimension 1 3 1 0 3 ∷ [])) (view (1 ∷ 0 ∷ []) 0) 0 3 2 6
    (accepted (0 ∷ 3 ∷ 1 ∷ 4 ∷ 2 ∷ 5 ∷ []))

-- 8: clip column offset 2: elements (0,2) (0,3) (1,2) (1,3) of 2 by 4 get bytes 0 1 4 5, the rest is kept
pub clipped : Strip
clipped =
    load_strip (plain 8 1) (view (0 ∷ []) 2) 0 2 4 8 (accepted (100 ∷ 100 ∷ 0 ∷ 1 ∷ 100 ∷ 100 ∷ 4 ∷ 5 ∷ []))

-- 9: five spans of 4,096 and a permutation: step 1 gets 12 at element 1
pub large_index : Strip
large_index =
    load_strip (layout Undefined 0 (replicate 5 (dimension 1 4096 0 0 4096))) (view (1 ∷ 2 ∷ 3 ∷ 4 ∷ 0 ∷ []) 0) 0 1 2 2
    (refused (refusal_at index_too_large 1 1))

-- 10: stride 0 store: 1 by 1 is accepted, 1 by 2 gets 15 in step 1 at element 1
pub stride_zero_single : Strip
stride_zero_single =
    store_strip (plain 8 0) 1 1 (accepted (100 ∷ counting_from 1 63))

pub stride_zero_pair : Strip
stride_zero_pair =
    store_strip (plain 8 0) 1 2 (refused (refusal_at byte_twice 1 1))

-- 11: 2x2 add of a loaded u8 matrix
pub two_by_two : Strip
two_by_two =
    record {
      sheet = edition ++ plain 4 1 ++ fill 2 2 0 ++ load 0 255 0 ++ field 0x23 (2 ∷ 1 ∷ 1 ∷ 1 ∷ 4 ∷ 0 ∷ []);
      memory = 200 ∷ 100 ∷ 1 ∷ 2 ∷ [];
      question = elements 2 1;
      wanted = accepted (47 ∷ []);
    }

-- beside document 01's: blocks of 2, each coordinate divided and rounded down
pub blocks_of_two : Strip
blocks_of_two =
    load_strip (layout Undefined 0 (dimension 2 8 1 0 8 ∷ [])) [] 255 1 8 8 (accepted (0 ∷ 0 ∷ 1 ∷ 1 ∷ 2 ∷ 2 ∷ 3 ∷ 3 ∷ []))

-- document 02's T-01: a network of two layers, worked by hand in strips/13-two-layer-network
pub two_layers : Strip
two_layers =
    record {
      sheet =
          edition_of 2 ++ layout Undefined 0 (dimension 1 3 1 0 3 ∷ [])
          ++ field 0x20 (0 ∷ 2 ∷ 1 ∷ 4 ∷ long 0)
          ++ field 0x21 (0 ∷ 255 ∷ 0 ∷ 255 ∷ long 0)
          ++ vector (1 ∷ 5 ∷ 0 ∷ 9 ∷ 1 ∷ 4 ∷ 6 ∷ 1 ∷ []) 4 8 0 0
          ++ vector (2 ∷ 5 ∷ 1 ∷ 0 ∷ 3 ∷ 3 ∷ 4 ∷ 0 ∷ []) 8 32 1 56;
      memory = network;
      question = elements 2 3;
      wanted = accepted (500 ∷ 965 ∷ 4294964296 ∷ []);
    }

-- document 02's T-03: what is skipped of a load without an object is kept in edition 2, and 0 in edition 3
pub no_object_kept : Strip
no_object_kept =
    no_object_strip 2 (accepted (100 ∷ 100 ∷ 16 ∷ 17 ∷ 100 ∷ 100 ∷ 20 ∷ 21 ∷ []))

pub no_object_zeros : Strip
no_object_zeros =
    no_object_strip 3 (accepted (0 ∷ 0 ∷ 16 ∷ 17 ∷ 0 ∷ 0 ∷ 20 ∷ 21 ∷ []))

unfoldable pub strips : List Strip
strips =
    constant
    ∷ clamp_to_edge
    ∷ repeated
    ∷ mirrored
    ∷ mirrored_of_one
    ∷ undefined
    ∷ clamped_store
    ∷ permuted
    ∷ clipped
    ∷ large_index
    ∷ stride_zero_single
    ∷ stride_zero_pair
    ∷ two_by_two
    ∷ blocks_of_two
    ∷ two_layers
    ∷ no_object_kept
    ∷ no_object_zeros
    ∷ []

-- what carrying out gives for a strip; to unfold it is to unfold all that a strip is made of and all that carrying out rests on
pub found : Strip → Answer
unfolding word long field edition_of edition layout dimension view fill load store vector no_object_strip network Undefined Constant ClampToEdge Repeat MirrorRepeat counting_from counting load_strip store_strip edged edge_strip plain pick both between all line Little.u16_at Little.u32_at width bytes_of fits element_at with_element Editions.no_object Editions.tag_known Editions.limits Editions.fill_length Sizes.offset_ok Codes.clamp_mode Codes.reduce_mode Codes.combine_of Codes.memory_layout Codes.object_of Codes.viewing_of Layouts.no_layout Layouts.dimension_ok Layouts.dimension_unused Layouts.dimension_at_ok Layouts.layout_ok Layouts.layout_unused Views.no_view Views.fresh Views.entry_ok Views.view_dimension_unused Views.view_dimension_at_ok Views.sized_rank Views.view_ok Views.clip_unused Views.view_unused model.fill_ok model.window_ok model.load_ok model.store_ok model.reduce_ok model.transpose_ok model.multiply_ok model.bias_ok model.vector_ok interpretation_ok Sheets.no_tensors Sheets.empty_sheet Fields.field_at Contents.dimension_at Contents.dimensions_at Contents.layout_at Contents.layout_length_ok Contents.layout_head_ok Contents.permutation_at Contents.view_dimension_at Contents.view_dimensions_at Contents.clip_at Contents.view_of Contents.view_at Contents.view_length_ok Contents.view_head_ok stepContents.fill_at stepContents.window_at stepContents.load_at stepContents.store_at stepContents.reduce_at stepContents.transpose_at stepContents.multiply_at stepContents.vector_numbers stepContents.vector_at stepContents.step_at stepContents.step_length Reading.layout_may_come Reading.view_may_come Reading.step_may_come Reading.edition_refusal Reading.layout_refusal Reading.view_refusal Reading.step_refusal Reading.field_refusal Reading.with_field Reading.refused_read Reading.accepted_read Reading.end_read Reading.turn_field Reading.turn Reading.after_turn Reading.read_from Reading.read_sheet empty_registers Combining.folded Rules.outside_clip Rules.outside_view Rules.indexed Indices.row_major Indices.view_sizes Indices.view_strides Indices.coordinates Indices.view_coordinates Indices.weighted Indices.view_index Spans.span_coordinates value taken negative Clamps.turned_back Clamps.mirrored Clamps.outside Clamps.clamped Rules.part Rules.tensor_index Rules.addressed Rules.reached Rules.located accesses.element_outcome accesses.other_rank accesses.blocks_one accesses.store_blocked accesses.first_refused clashes.meets clashes.clash_from accesses.clash_refusal accesses.elements_refusal accesses.access_refusal accesses.placed_count accesses.checked_elements Grids.blank Grids.block Reducing.reduced shapes.reduce_refusal first_from sum_z Places.row_step Places.column_step Places.elements_of Places.end_of vectors.input_agrees vectors.memory_refusal vectors.vector_refusal Saturation.below Saturation.above Saturation.saturated Components.packed_kind Components.component_at Results.bias_at Results.result_at transferred checks.access_check checks.checked_step steps.with_object steps.load_done steps.store_done steps.performed_step checked_from checked checked_sheet performed_from performed carried carried_memory
found s =
    let r = carried s.sheet s.memory in
    pick (eqb r.refusal.number 0)
    (accepted (asked s.question r.registers.elements (carried_memory s.sheet s.memory)))
    (refused r.refusal)

-- each strip gives what is wanted, by computation
pub constant_right : found constant ≡ constant.wanted
unfolding found constant
constant_right = refl

pub clamp_to_edge_right : found clamp_to_edge ≡ clamp_to_edge.wanted
unfolding found clamp_to_edge
clamp_to_edge_right = refl

pub repeated_right : found repeated ≡ repeated.wanted
unfolding found repeated
repeated_right = refl

pub mirrored_right : found mirrored ≡ mirrored.wanted
unfolding found mirrored
mirrored_right = refl

pub mirrored_of_one_right : found mirrored_of_one ≡ mirrored_of_one.wanted
unfolding found mirrored_of_one
mirrored_of_one_right = refl

pub undefined_right : found undefined ≡ undefined.wanted
unfolding found undefined
undefined_right = refl

pub clamped_store_right : found clamped_store ≡ clamped_store.wanted
unfolding found clamped_store
clamped_store_right = refl

pub permuted_right : found permuted ≡ permuted.wanted
unfolding found permuted
permuted_right = refl

pub clipped_right : found clipped ≡ clipped.wanted
unfolding found clipped
clipped_right = refl

pub large_index_right : found large_index ≡ large_index.wanted
unfolding found large_index
large_index_right = refl

pub stride_zero_single_right : found stride_zero_single ≡ stride_zero_single.wanted
unfolding found stride_zero_single
stride_zero_single_right = refl

pub stride_zero_pair_right : found stride_zero_pair ≡ stride_zero_pair.wanted
unfolding found stride_zero_pair
stride_zero_pair_right = refl

pub two_by_two_right : found two_by_two ≡ two_by_two.wanted
unfolding found two_by_two
two_by_two_right = refl

pub blocks_of_two_right : found blocks_of_two ≡ blocks_of_two.wanted
unfolding found blocks_of_two
blocks_of_two_right = refl

pub two_layers_right : found two_layers ≡ two_layers.wanted
unfolding found two_layers
two_layers_right = refl

pub no_object_kept_right : found no_object_kept ≡ no_object_kept.wanted
unfolding found no_object_kept
no_object_kept_right = refl

pub no_object_zeros_right : found no_object_zeros ≡ no_object_zeros.wanted
unfolding found no_object_zeros
no_object_zeros_right = refl
