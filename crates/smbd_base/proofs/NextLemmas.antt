-- What comes next, test by test.
use Rattle.std.proofs.Common.{◌≡◌, true, false, List}
use Rattle.smbd_base.specs.declared.end_id.EndId.{EndId}
use Rattle.smbd_base.specs.declared.event.Event.{Event}
use Rattle.smbd_base.specs.declared.next.Next.TheVariants as due
use Rattle.smbd_base.specs.Limits.{Limits}
use Rattle.smbd_base.specs.History.{next_event, negotiation_frame, frame_due, is_cut, is_new, is_closed, is_post_due, is_negotiating, is_sending}
use Rattle.smbd_base.proofs.Inversion.{IsGoing}

module _ (side : EndId) (limits : Limits) (past : List Event) where
  pub next-cut : is_cut past ≡ true → next_event side limits past ≡ due.Idle
  unfolding next_event
  next-cut cut = rw cut

  pub next-closed : is_cut past ≡ false → is_new past ≡ false → is_closed side limits past ≡ true → next_event side limits past ≡ due.Close
  unfolding next_event
  next-closed cut opened closed = rw (cut, opened, closed)

  pub next-post : IsGoing side limits past → is_post_due past ≡ true → next_event side limits past ≡ due.Post 1
  unfolding next_event
  next-post g post = rw (g.cut, g.opened, g.closed, post)

  pub next-opening : IsGoing side limits past → is_post_due past ≡ false → is_negotiating side past ≡ true → next_event side limits past ≡ due.Emit (negotiation_frame side limits past)
  unfolding next_event
  next-opening g post opening = rw (g.cut, g.opened, g.closed, post, opening)

  pub next-sending : IsGoing side limits past → is_post_due past ≡ false → is_negotiating side past ≡ false → is_sending side limits past ≡ true
      → next_event side limits past ≡ due.Emit (frame_due side limits past)
  unfolding next_event
  next-sending g post opening sending = rw (g.cut, g.opened, g.closed, post, opening, sending)

  pub next-idle : IsGoing side limits past → is_post_due past ≡ false → is_negotiating side past ≡ false → is_sending side limits past ≡ false
      → next_event side limits past ≡ due.Idle
  unfolding next_event
  next-idle g post opening sending = rw (g.cut, g.opened, g.closed, post, opening, sending)
