-- The definition made to compute: whoever says `unfolding evaluate` unfolds every definition that `answer` is made of.
-- The definitions themselves unfold nothing, so that a proof which opens one of them sees its callees by name.
use Rattle.std.specs.Prelude.{ℕ, List}
use Rattle.std.specs.Float.Ieee.{add, mul, div, lt, of_int, to_bits}
use Rattle.lists.specs.Base.{lexicographic, sum, count_from, any, all, retain, find, enumerate_from, keep_best, first_best, insert_by, sort_by, remove_at, last_or, drop_last, swap_remove, swap, foldl, concat_map, fold_option, map_option}
use Rattle.model.specs.Types.{same_rect, same_key}
use Rattle.model.specs.Fit.{same_pattern, pattern_matches, rotate_pattern, upright_test, turning_matters, rotated_test, upright_fit, rotated_fit, fit_cut_in_rects, cut_fits_stock}
use Rattle.model.specs.Choice.{area_waste, short_side, long_side, free_rect_choice_score}
use Rattle.model.specs.Split.{split_direction, bottom_remainder, right_remainder, split_free_rect, split_loss}
use Rattle.model.specs.Merge.{merge_adjacent_rects, find_right, find_pair, apply_merge, merge_rounds, merge_free_rects, merges_any}
use Rattle.model.specs.Guide.{guide_cut, cut_off, insert_subtree, replace_free_leaf}
use Rattle.model.specs.Sheet.{new_sheet, places, score_less, best_place, split_rects, split_tree, insert_at, try_insert, rebuild, making_of, sheet_keys, placed_area}
use Rattle.model.specs.Fitness.{weight, sheet_fitness, used_stock_area, weighted_fitness, fitness, compare_float, compare_fitness}
use Rattle.model.specs.Candidate.{contains_key, cut_for_key, cuts_for_keys, placed_cut_keys, remove_unused_cut, insert_in_bins, take_first_fitting_stock, first_end, place_cut_first_fit, place_cuts, reinsert_unused_first_fit, worst_bin, compacted, compact_worst_bin, has_duplicate_keys, is_valid, score, compare_score, compare_optional_score}
use Rattle.model.specs.TinyPrng.{next_state, value_of, index_of}
use Rattle.model.specs.Project.{little_endian, number, read_record, read_records, project_of, well_formed}
use Rattle.model.specs.Refusal.{first_that_applies, settings_checks, stock_rule, cut_rule, record_checks, whole_checks, project_checks, file_checks, file_refusal}
use Rattle.model.specs.Expand.{compare_stock, compare_cut, stock_instances, cut_instances, expand_project, sorted_cut_order, shuffle_from, shuffle_cut_order}
use Rattle.model.specs.Search.{search_numbers, heuristic_variants, default_heuristic, other_heuristics, sorted_seed, variant_seeds, shuffled_seed, initial_seeds, candidate_from_seed, initial_population, best_donor_bin, full_stock, crossover_child, child_of, children, crossover_population, repair_population, compact_population, survival_generation, generation, run_generations, select_best_valid, winner}
use Rattle.model.specs.Plan.{piece_words, preorder, nodes_of, node_words, saw_length, use_of, saw_of, sheet_words, contents_from, plan_words, part_of, sheet_part}
use Rattle.model.specs.Account.{shared_side, rounds_gain, merge_gain, place_loss, place_gain, account_from, free_area}
use Rattle.model.specs.Answer.{Answer, prefilter, solution, searched, optimized, answer_with, answer, makings, made_by}
use Rattle.model.specs.Outcome.{is_late, clears, cleared, written, too_small, outcome}

unfoldable pub evaluate : List ℕ → Answer
unfolding lexicographic sum count_from any all retain find enumerate_from keep_best first_best insert_by sort_by remove_at last_or drop_last swap_remove swap foldl concat_map fold_option map_option same_rect same_key same_pattern pattern_matches rotate_pattern upright_test turning_matters rotated_test upright_fit rotated_fit fit_cut_in_rects cut_fits_stock area_waste short_side long_side free_rect_choice_score split_direction bottom_remainder right_remainder split_free_rect split_loss merge_adjacent_rects find_right find_pair apply_merge merge_rounds merge_free_rects merges_any guide_cut cut_off insert_subtree replace_free_leaf new_sheet places score_less best_place split_rects split_tree insert_at try_insert rebuild making_of sheet_keys placed_area weight sheet_fitness used_stock_area weighted_fitness fitness compare_float compare_fitness contains_key cut_for_key cuts_for_keys placed_cut_keys remove_unused_cut insert_in_bins take_first_fitting_stock first_end place_cut_first_fit place_cuts reinsert_unused_first_fit worst_bin compacted compact_worst_bin has_duplicate_keys is_valid score compare_score compare_optional_score next_state value_of index_of little_endian number read_record read_records project_of well_formed first_that_applies settings_checks stock_rule cut_rule record_checks whole_checks project_checks file_checks file_refusal compare_stock compare_cut stock_instances cut_instances expand_project sorted_cut_order shuffle_from shuffle_cut_order search_numbers heuristic_variants default_heuristic other_heuristics sorted_seed variant_seeds shuffled_seed initial_seeds candidate_from_seed initial_population best_donor_bin full_stock crossover_child child_of children crossover_population repair_population compact_population survival_generation generation run_generations select_best_valid winner piece_words preorder nodes_of node_words saw_length use_of saw_of sheet_words contents_from plan_words part_of sheet_part shared_side rounds_gain merge_gain place_loss place_gain account_from free_area prefilter solution searched optimized answer_with answer makings made_by is_late clears cleared written too_small outcome add mul div lt of_int to_bits
evaluate bytes = answer bytes
