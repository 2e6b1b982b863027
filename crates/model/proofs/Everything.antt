-- To unfold `everything` is to unfold every definition: for cases that are proved by computation.
use mathlib.Core.List.{flat_map}
use Rattle.model.specs.Places.{pad}
use Rattle.model.specs.Table.{entries, readable, item_count, item_ongoing, item_version, first_entry, child_entry, entry_words, child_words, child_count, child_ongoing, child_version}
use Rattle.model.specs.Nodes.{seek_from, seek, child_by, keep, children_from, children}
use Rattle.model.specs.Rows.{rows_from, rows_of, rows, total_of, place, row_of, chain, path, paths}
use Rattle.model.specs.Regions.{join, runs}
use Rattle.model.specs.Settle.{totalled, settle}
use Rattle.model.specs.Sound.{reaches, capture_ok, used_ok, node_ok, nodes_ok, same_list, same_model, sound}
use Rattle.model.specs.Logs.{log_of}
use Rattle.model.specs.New.{zeros, answer_new}
use Rattle.model.specs.Count.{answer_count}
use Rattle.model.specs.Fetch.{fresh, shown, fetch_node, answer_fetch}
use Rattle.model.specs.Open.{open_node, answer_open}
use Rattle.model.specs.Close.{closing_order, free_below, close_one, close_each, close_node, answer_close}
use Rattle.model.specs.Release.{release_node, answer_release}
use Rattle.model.specs.Update.{visit, went_back, any_went_back, end_of, text_step, grow_step, step, steps, updated, answer_update}
use Rattle.model.specs.Replay.{fits, replay_one, replay_all, all_fit, read_in, replays}
use Rattle.model.specs.Calls.{call, answers, after, all_replay}

unfoldable pub everything : Unit {0}
unfolding flat_map pad entries readable item_count item_ongoing item_version first_entry child_entry entry_words child_words child_count child_ongoing child_version seek_from seek child_by keep children_from children rows_from rows_of rows total_of place row_of chain path paths join runs totalled settle reaches capture_ok used_ok node_ok nodes_ok same_list same_model sound log_of zeros answer_new answer_count fresh shown fetch_node answer_fetch open_node answer_open closing_order free_below close_one close_each close_node answer_close release_node answer_release visit went_back any_went_back end_of text_step grow_step step steps updated answer_update fits replay_one replay_all all_fit read_in replays call answers after all_replay
everything = tt
