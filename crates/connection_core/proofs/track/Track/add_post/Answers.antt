use Rattle.std.proofs.Common.{◌≡◌, sym, subst}
use Rattle.smbd_base.specs.declared.next.Next.TheVariants as due
use Rattle.smbd_base.specs.History.{next_event}
use Rattle.connection_core.specs.Tracked.{Tracked}
use Rattle.connection_core.proofs.TrackLemmas.{post_fits}
use Rattle.connection_core.proofs.track.Track.add_post.Goals as goal

pub posted-requires : goal.posted-requires
posted-requires c =
    record {
      room = post_fits c.self.inside c.self.invariant
          (subst (λ (t : Tracked). next_event t.side t.limits t.past ≡ due.Post 1) (sym c.self.view_is) c.requires.due);
    }
