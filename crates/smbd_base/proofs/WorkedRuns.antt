-- The worked lists of a pool are those of a run, by computation.
use Rattle.std.proofs.Common.{ℕ, List, [], ◌∷◌, refl, replicate, slice_set, lit≤}
use Rattle.smbd_base.specs.declared.right.Right.TheVariants as right
use Rattle.smbd_base.specs.declared.page_event.PageEvent.{PageEvent}
use Rattle.smbd_base.specs.declared.page_event.PageEvent.TheVariants.{Load, Fetch, Place, Unload}
use Rattle.smbd_base.specs.Pages.{Entry, PageState, IsPoolRun, page_in, page_at, page_after, opened_page, whole_page}
use Rattle.smbd_base.specs.PagesFit.{PagesFit}
use Rattle.smbd_base.specs.WorkedPages.{first_of, second_of, owner, peer}
use Rattle.smbd_base.proofs.PagesFitLaws.{lists-fit}

abbrev by : ℕ → PageEvent → Entry
by pass event = record { pass = pass; event = event }

-- the two passes in turn
abbrev together : List Entry
together =
    by 0 (Load (second_of 0) right.Fetch (101 ∷ []))
    ∷ by 0 (Unload (first_of 0) (97 ∷ 98 ∷ 99 ∷ replicate 4093 0))
    ∷ by 0 (Unload (first_of 1) (97 ∷ 120 ∷ 122 ∷ 100 ∷ replicate 4092 0))
    ∷ by 1 (Place (first_of 1) 1 2 (122 ∷ []))
    ∷ by 1 (Place (first_of 1) 0 1 (120 ∷ 121 ∷ []))
    ∷ by 0 (Load (first_of 1) right.Place (97 ∷ 98 ∷ 99 ∷ 100 ∷ []))
    ∷ by 1 (Fetch (first_of 0) 1 (98 ∷ 99 ∷ 0 ∷ []))
    ∷ by 0 (Load (first_of 0) right.Fetch (97 ∷ 98 ∷ 99 ∷ []))
    ∷ []

-- the two pages after these entries
abbrev pages_after : List Entry → List PageState
pages_after [] = replicate 2 (opened_page 1)
pages_after (e ∷ past) = slice_set (pages_after past) (page_in e.event) (page_after e.event (page_at (page_in e.event) (pages_after past)))

together-runs : IsPoolRun 1 2 together (pages_after together)
unfolding whole_page
together-runs = (
  _,
  (
    _,
    (
      _,
      (
        _,
        (
          _,
          (
            _,
            (
              _,
              (
                pages_after [],
                refl,
                record { among = lit≤ tt; step = record { unloaded = refl; next = refl; fits = lit≤ tt }; after = refl },
              ),
              record {
                among = lit≤ tt;
                step = record { page = _; loaded = record { now = refl; under = refl }; allowed = refl; within = lit≤ tt; same = refl };
                after = refl;
              },
            ),
            record { among = lit≤ tt; step = record { unloaded = refl; next = refl; fits = lit≤ tt }; after = refl },
          ),
          record {
            among = lit≤ tt;
            step = record { page = _; loaded = record { now = refl; under = refl }; allowed = refl; next = refl; most = lit≤ tt; within = lit≤ tt };
            after = refl;
          },
        ),
        record {
          among = lit≤ tt;
          step = record { page = _; loaded = record { now = refl; under = refl }; allowed = refl; next = refl; most = lit≤ tt; within = lit≤ tt };
          after = refl;
        },
      ),
      record { among = lit≤ tt; step = record { page = _; loaded = record { now = refl; under = refl }; same = refl }; after = refl },
    ),
    record { among = lit≤ tt; step = record { page = _; loaded = record { now = refl; under = refl }; same = refl }; after = refl },
  ),
  record { among = lit≤ tt; step = record { unloaded = refl; next = refl; fits = lit≤ tt }; after = refl },
)

pub worked-lists-fit : PagesFit 1 (owner ∷ peer ∷ [])
worked-lists-fit = lists-fit 1 2 (lit≤ tt) 2 together (pages_after together) together-runs
    (lit≤ tt, (lit≤ tt, (lit≤ tt, (lit≤ tt, (lit≤ tt, (lit≤ tt, (lit≤ tt, (lit≤ tt, tt))))))))

pub no-events-fit : PagesFit 1 ([] ∷ [] ∷ [])
no-events-fit = lists-fit 1 2 (lit≤ tt) 2 [] (pages_after []) refl tt
