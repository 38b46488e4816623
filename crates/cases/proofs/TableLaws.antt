-- The worked examples hold.
--     rows_hold    the load of each row has the outcome that the row gives
-- Assumes nothing.
use Rattle.std.specs.Prelude.{◌≡◌, refl, Bool, true, ◌&&◌, List, [], ◌∷◌, map, ℕ, ◌+◌, leb, take}
use Rattle.std.proofs.Common.{sym, ◌∙◌, leb-true}
use Rattle.std.proofs.lemmas.List.{map-append}
use Rattle.laws.specs.Tests.{any, all_from, run}
use Rattle.laws.specs.Table.{listed}
use Rattle.laws.proofs.TestLaws.{and_left, and_right}
use Rattle.laws.specs.Passing.{passing}
use Rattle.laws.specs.Checks.{only_if, first_of, passes}
use Rattle.buffer.specs.Patched.{patched}
use Rattle.buffer.specs.Writes.{written}
use Rattle.number.specs.Number.{number, number_bytes, word_bytes}
use Rattle.address.specs.Span.{overlap}
use Rattle.address.specs.Address.{page, round_up, inside}
use Rattle.edge.specs.Edge.{nearest, span_edge, edge_up_to}
use Rattle.submission.specs.Scan.{has_zero, same_bytes}
use Rattle.submission.specs.Format.{data_start}
use Rattle.submission.specs.Layout.{layout_of}
use Rattle.submission.specs.Rules.{is_submission, in_limits, string_holds, rules_hold, submission_checks}
use Rattle.command_line.specs.CommandLine.{operator_checks, command_line}
use Rattle.command_line.specs.LineInForce.{line_in_force}
use Rattle.header.specs.Header.{search_limit, words, is_header, header_from, header}
use Rattle.header.specs.FalseHeader.{is_false_header, is_false_header_at, places_passed, false_headers}
use Rattle.image.specs.Load.{fields_at, load_length}
use Rattle.kernel.specs.Kernel.{kernel_with}
use Rattle.kernel.specs.Checks.{entry_in, entry_outside, entry_checks, overlap_no, overlaps_earlier, extents_overlap}
use Rattle.elf.specs.Elf.{elf_header, program_header_at}
use Rattle.elf.specs.Segments.{is_segment, segments_among, elf_kernel}
use Rattle.elf.specs.Checks.{right_kind, table_fits, well_formed, fits, bad_header, bad_no, elf_checks}
use Rattle.image.specs.Judged.{unknown_kind, header_checks, load_checks, field_checks, kind_checks, image_checks, kernel_for, fields_kernel, kernel_of}
use Rattle.memory_map.specs.Pairs.{next_offset, pair_offset}
use Rattle.memory_map.specs.Map.{begins, pair_count, too_small, past_end, bad_map, map_checks, pair_at, first_pairs}
use Rattle.memory_map.specs.Parse.{parsed_map}
use Rattle.usable.specs.Usable.{address_space, covers, usable_by, barred_by, is_usable}
use Rattle.usable.specs.MapEdge.{map_edge}
use Rattle.board.specs.Open.{is_open}
use Rattle.board.specs.OpenEdge.{open_edge}
use Rattle.board.specs.Window.{window_checks}
use Rattle.placement.specs.Free.{taken_by, is_taken, is_free}
use Rattle.placement.specs.FreeEdge.{taken_edge, free_edge}
use Rattle.placement.specs.Lowest.{under_ceiling}
use Rattle.placement.specs.Order.{with_span}
use Rattle.items.specs.LoadItems.{extents_of, ceiling_of, load_item, items_of, module_spans}
use Rattle.decision.specs.Decided.{extent_open, kernel_open, kernel_checks, room_checks, plan_of}
use Rattle.decision.specs.Plan.{no_plan}
use Rattle.decision.specs.Read.{image_in}
use Rattle.decision.specs.Decision.{lent_checks}
use Rattle.block.specs.Block.{structure_words, texts_size, block_length, structure_for, entry_words, entries, parts_of, block_of, string_lengths, boot_modules}
use Rattle.block.specs.TextSize.{text_size}
use Rattle.loader.specs.Memory.{segment_write, module_write}
use Rattle.cases.proofs.WalkLaws.{walk, computed, computed_from}
use Rattle.cases.proofs.RunLaws.{run_end, computed_lower, computed_upper}
use Rattle.cases.proofs.CountLaws.{counted_up_to, count_computes}
use Rattle.cases.proofs.ModelLaws.{model_in, decision_with, model_decision, contents_with, writes_with, memory_with, model_memory, decision_computes, memory_computes}
use Rattle.cases.specs.Table.{Input, lent_of, window_of, Outcome, columns, outcome_of, refusal, Row, long_rows, short_rows, rows}

abbrev model_outcome : Input → Outcome
model_outcome input =
    let x = lent_of input in
    let d = model_decision x in
    columns x.first d (model_memory x (window_of input) d)

-- a window ends a page before 2^32 or earlier, so that the model serves
abbrev served : List Row → Bool
served [] = true
served (r ∷ rs) = leb (r.input.first + r.input.window + page) address_space && served rs

model_serves : (l : List Row) → served l ≡ true → map (λ (r : Row). outcome_of r.input) l ≡ map (λ (r : Row). model_outcome r.input) l
model_serves [] h = refl
model_serves (r ∷ rs) h =
    let x = lent_of r.input in
    let a = leb (r.input.first + r.input.window + page) address_space in
    rw (memory_computes x (window_of r.input), decision_computes x (leb-true _ _ (and_left a (served rs) h)), model_serves rs (and_right a (served rs) h))

all_served : served rows ≡ true
unfolding long_rows short_rows
all_served = refl

-- the image of a row, and the count of its false headers from the front
module _ (r : Row) where
  abbrev image_of_row : List ℕ
  image_of_row = image_in (lent_of r.input)

  abbrev count_of_row : ℕ
  count_of_row = counted_up_to (places_passed (header image_of_row)) (words (take search_limit image_of_row))

counts_compute : (l : List Row) → map (λ (r : Row). refusal 6 (false_headers (image_of_row r))) l ≡ map (λ (r : Row). refusal 6 (count_of_row r)) l
counts_compute [] = refl
counts_compute (r ∷ rs) = rw (count_computes (image_of_row r), counts_compute rs)

long_refused : map (λ (r : Row). model_outcome r.input) long_rows ≡ map (λ (r : Row). refusal 6 (false_headers (image_of_row r))) long_rows
unfolding long_rows columns decision_with model_decision memory_with model_memory lent_checks no_plan window_checks next_offset pair_offset begins pair_count too_small past_end bad_map map_checks pair_at first_pairs parsed_map header_checks image_checks words is_header header_from header operator_checks is_submission in_limits string_holds rules_hold submission_checks data_start layout_of has_zero same_bytes patched number number_bytes word_bytes first_of passes listed any all_from run
long_refused = refl

long_counted : map (λ (r : Row). refusal 6 (count_of_row r)) long_rows ≡ map (λ (r : Row). r.outcome) long_rows
unfolding long_rows counted_up_to is_false_header words is_header header_from header layout_of patched number number_bytes word_bytes
long_counted = refl

computed_short : map (λ (r : Row). model_outcome r.input) short_rows ≡ map (λ (r : Row). r.outcome) short_rows
unfolding short_rows columns model_in decision_with model_decision contents_with writes_with memory_with model_memory segment_write module_write lent_checks extent_open kernel_open kernel_checks room_checks plan_of no_plan extents_of ceiling_of load_item items_of module_spans structure_words text_size texts_size block_length structure_for entry_words entries parts_of block_of string_lengths boot_modules walk under_ceiling computed computed_from run_end computed_lower computed_upper with_span taken_by is_taken is_free taken_edge free_edge window_checks open_edge is_open map_edge covers usable_by barred_by is_usable next_offset pair_offset begins pair_count too_small past_end bad_map map_checks pair_at first_pairs parsed_map unknown_kind header_checks load_checks field_checks kind_checks entry_checks image_checks kernel_for fields_kernel kernel_of elf_header program_header_at is_segment segments_among elf_kernel right_kind table_fits well_formed fits bad_header bad_no elf_checks kernel_with entry_in entry_outside overlap_no overlaps_earlier extents_overlap overlap passing only_if fields_at load_length words is_header header_from header is_false_header is_false_header_at false_headers operator_checks line_in_force command_line is_submission in_limits string_holds rules_hold submission_checks data_start layout_of has_zero same_bytes nearest span_edge edge_up_to round_up inside patched written number number_bytes word_bytes first_of passes listed any all_from run
computed_short = refl

computed_rows : map (λ (r : Row). model_outcome r.input) rows ≡ map (λ (r : Row). r.outcome) rows
computed_rows =
    map-append (λ (r : Row). model_outcome r.input) long_rows short_rows
    ∙ rw (long_refused, counts_compute long_rows, long_counted, computed_short) (sym (map-append (λ (r : Row). r.outcome) long_rows short_rows))

pub rows_hold : map (λ (r : Row). outcome_of r.input) rows ≡ map (λ (r : Row). r.outcome) rows
rows_hold = model_serves rows all_served ∙ computed_rows
