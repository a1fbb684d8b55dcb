use Rattle.std.proofs.Common.{refl, arith}
use Rattle.smbd_base.specs.Tokens.{IsToken}
use Rattle.std.specs.Prelude.{codes}
use Rattle.smbd_base.specs.declared.page_event.PageEvent.TheVariants as events
use Rattle.page_workers.specs.Jobs.{IsDone}
use Rattle.page_workers.specs.Worked.{token, page, loads, loaded, load, unloads, unloaded, fetches, fetched}
use Rattle.page_workers.proofs.worked.worked_workers.Goals as goal

is_token : IsToken token
is_token = record { page = omega arith; least = omega arith; most = omega arith }

is_loaded : IsDone loads loaded load
is_loaded = record { number = refl; done = record { lawful = is_token; page_is = refl; right_is = refl; bytes_are = refl; named = refl } }

is_unloaded : IsDone unloads unloaded (events.Unload token page)
is_unloaded = record { number = refl; done = record { token_is = refl; bytes_are = refl; whole = refl } }

is_fetched : IsDone fetches fetched (events.Fetch token 1 (codes "bc"))
is_fetched = record { number = refl; done = record { token_is = refl; place_is = refl; bytes_are = refl; length_is = refl } }

pub returns-clause-so : goal.returns-clause-so
returns-clause-so c = record {
  none = (refl, refl);
  both = (is_loaded, (is_unloaded, (refl, refl)));
  access = (is_fetched, (refl, refl));
  waits = (is_loaded, (refl, refl));
  unissued = (record { lawful = is_token; bytes = codes "abc"; length_is = refl; job_is = refl; made_is = refl }, refl);
  untried = ((refl, refl), refl);
}

pub returns-clause-not_so : goal.returns-clause-not_so
returns-clause-not_so c = record {
  out_of_turn = λ h. let n = h.0.number in cc;
  dropped = λ h. let n = h.1.0 in cc;
  no_event = λ h. h;
  two_events = λ h. let n = h.1.1 in cc;
  other_place = λ h. let n = h.0.done.place_is in cc;
  other_number = λ h. let n = h.0.number in cc;
}
