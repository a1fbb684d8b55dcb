use Rattle.std.proofs.Common.{refl}
use Rattle.std.specs.Fmt.{digits}
use Rattle.hex.specs.Hex.{decode_pairs}
use Rattle.event_log.specs.Reading.{reading_of, side_named, end_word, page_word, right_named, number_in, post_of, submit_of, emit_of, take_of, load_of, fetch_of, place_of, unload_of}
use Rattle.event_log.proofs.worked.worked_texts.Goals as goal

pub returns-clause-lines : goal.returns-clause-lines
unfolding reading_of side_named end_word page_word right_named number_in post_of submit_of emit_of take_of load_of fetch_of place_of unload_of digits decode_pairs
returns-clause-lines c = refl

pub returns-clause-faults : goal.returns-clause-faults
unfolding reading_of side_named end_word page_word right_named number_in post_of submit_of emit_of take_of load_of fetch_of place_of unload_of digits decode_pairs
returns-clause-faults c = refl

pub returns-clause-pages : goal.returns-clause-pages
unfolding digits
returns-clause-pages c = record { load = refl; place_load = refl; fetch = refl; place = refl; unload = refl }
