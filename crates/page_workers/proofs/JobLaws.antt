-- What follows of a worker's jobs and events.
use Rattle.std.proofs.Common.{◌≡◌, ℕ, ◌+◌, ◌*◌, ◌%◌, ◌≤◌, Some, None, List, [], ◌∷◌, ◌++◌, length, map, refl, sym, ap, ◌∙◌, subst, arith}
use Rattle.smbd_base.specs.declared.page_event.PageEvent.{PageEvent}
use Rattle.smbd_base.specs.declared.page_event.PageEvent.TheVariants as events
use Rattle.smbd_base.specs.Pages.{PageState, IsPoolRun}
use Rattle.buffer_descriptor.specs.declared.descriptor.Descriptor.{Descriptor}
use Rattle.file_messages.specs.declared.job.Job.{Job}
use Rattle.file_messages.specs.declared.job.Work.{Work}
use Rattle.file_messages.specs.declared.job.Work.TheVariants.{Load, Fetch, Place, Unload}
use Rattle.file_messages.specs.declared.job.WorkResult.{WorkResult}
use Rattle.file_messages.specs.declared.job.WorkResult.TheVariants.{Loaded, Fetched, Placed, Unloaded, Refused}
use Rattle.file_messages.specs.declared.job.Completion.{Completion}
use Rattle.file_pasts.specs.ClientPast.{IsOfKind}
use Rattle.file_pasts.specs.ServerDue.{Fits}
use Rattle.page_workers.specs.Jobs.{IsDoneBy}
use Rattle.page_workers.specs.Laws.{GivenJobsWait, NumbersFollow, StepsExtendPasts, AnswersClients, AnswersServers, IsOfServer}

pub given-wait : GivenJobsWait
given-wait None waiting jobs [] made j h = (ap (λ (js : List Job). js ++ j ∷ []) h.0, h.1)
given-wait (Some kept) waiting [] [] made j h = absurd h
given-wait (Some kept) waiting (x ∷ jobs) [] made j h = (h.0, ap (λ (js : List Job). js ++ j ∷ []) h.1)
given-wait kept waiting (x ∷ jobs) (c ∷ sent) (e ∷ made) j h = (h.0, given-wait kept waiting jobs sent made j h.1)
given-wait kept waiting (x ∷ jobs) (c ∷ sent) [] j h = absurd h
given-wait kept waiting [] (c ∷ sent) made j h = absurd h

pub numbers-follow : NumbersFollow
numbers-follow kept waiting jobs [] made h = refl
numbers-follow kept waiting (x ∷ jobs) (c ∷ sent) (e ∷ made) h =
    let later = numbers-follow kept waiting jobs sent made h.1 in
    ap (λ (n : ℕ). n ∷ map (λ (d : Completion). d.number) sent) h.0.number ∙ ap (λ (ns : List ℕ). x.number ∷ ns) later
numbers-follow kept waiting (x ∷ jobs) (c ∷ sent) [] h = absurd h
numbers-follow kept waiting [] (c ∷ sent) made h = absurd h

pub steps-extend : StepsExtendPasts
steps-extend first count pass past [] a b run steps = subst (λ (pages : List PageState). IsPoolRun first count past pages) (sym steps) run
steps-extend first count pass past (e ∷ made) a b run steps =
    steps-extend first count pass (record { pass = pass; event = e } ∷ past) made steps.0 b (a.pages, run, steps.1) steps.2

pub answers-clients : AnswersClients
answers-clients j c e h = by j.work c.result e h.done where
  by : (w : Work) (r : WorkResult) (e : PageEvent) → IsDoneBy w r e → IsOfKind w r
  by (Load page right bytes) (Loaded d) (events.Load token given loaded) i =
      let offset : d.offset ≡ token.page * 4096 = ap (λ (x : Descriptor). x.offset) i.named ∙ (let o : 4096 * token.page ≡ token.page * 4096 = omega arith in o) in
      let number : d.token ≡ token.generation * 256 + token.page = ap (λ (x : Descriptor). x.token) i.named in
      let page_is : d.token % 256 ≡ token.page = omega (arith, number, i.lawful.page) in
      let least : 256 ≤ d.token = omega (arith, number, i.lawful.least) in
      (offset ∙ ap (λ (n : ℕ). n * 4096) i.page_is, page_is ∙ i.page_is, least, ap (λ (x : Descriptor). x.length) i.named)
  by (Load page right bytes) (Loaded d) (events.Fetch t2 a2 b2) i = absurd i
  by (Load page right bytes) (Loaded d) (events.Place t2 o2 a2 b2) i = absurd i
  by (Load page right bytes) (Loaded d) (events.Unload t2 b2) i = absurd i
  by (Load page right bytes) (Fetched b2) e i = absurd i
  by (Load page right bytes) Placed e i = absurd i
  by (Load page right bytes) (Unloaded b2) e i = absurd i
  by (Load page right bytes) (Refused n2) e i = absurd i
  by (Fetch d) (Fetched bytes) (events.Fetch token at fetched) i = ap (λ (b : List ℕ). length b) (sym i.bytes_are) ∙ i.length_is
  by (Fetch d) (Fetched bytes) (events.Load t2 r2 b2) i = absurd i
  by (Fetch d) (Fetched bytes) (events.Place t2 o2 a2 b2) i = absurd i
  by (Fetch d) (Fetched bytes) (events.Unload t2 b2) i = absurd i
  by (Fetch d) (Loaded d2) e i = absurd i
  by (Fetch d) Placed e i = absurd i
  by (Fetch d) (Unloaded b2) e i = absurd i
  by (Fetch d) (Refused n2) e i = absurd i
  by (Place d bytes) Placed (events.Place token order at placed) i = _
  by (Place d bytes) Placed (events.Load t2 r2 b2) i = absurd i
  by (Place d bytes) Placed (events.Fetch t2 a2 b2) i = absurd i
  by (Place d bytes) Placed (events.Unload t2 b2) i = absurd i
  by (Place d bytes) (Loaded d2) e i = absurd i
  by (Place d bytes) (Fetched b2) e i = absurd i
  by (Place d bytes) (Unloaded b2) e i = absurd i
  by (Place d bytes) (Refused n2) e i = absurd i
  by (Unload token) (Unloaded bytes) (events.Unload of left) i = i.whole
  by (Unload token) (Unloaded bytes) (events.Load t2 r2 b2) i = absurd i
  by (Unload token) (Unloaded bytes) (events.Fetch t2 a2 b2) i = absurd i
  by (Unload token) (Unloaded bytes) (events.Place t2 o2 a2 b2) i = absurd i
  by (Unload token) (Loaded d2) e i = absurd i
  by (Unload token) (Fetched b2) e i = absurd i
  by (Unload token) Placed e i = absurd i
  by (Unload token) (Refused n2) e i = absurd i

pub answers-servers : AnswersServers
answers-servers j c e s h = by j.work c.result e s h.done where
  by : (w : Work) (r : WorkResult) (e : PageEvent) → IsOfServer w → IsDoneBy w r e → Fits w r
  by (Load page right bytes) (Loaded d) (events.Load token given loaded) s i = absurd s
  by (Load page right bytes) (Loaded d) (events.Fetch t2 a2 b2) s i = absurd i
  by (Load page right bytes) (Loaded d) (events.Place t2 o2 a2 b2) s i = absurd i
  by (Load page right bytes) (Loaded d) (events.Unload t2 b2) s i = absurd i
  by (Load page right bytes) (Fetched b2) e s i = absurd i
  by (Load page right bytes) Placed e s i = absurd i
  by (Load page right bytes) (Unloaded b2) e s i = absurd i
  by (Load page right bytes) (Refused n2) e s i = absurd i
  by (Fetch d) (Fetched bytes) (events.Fetch token at fetched) s i = ap (λ (b : List ℕ). length b) (sym i.bytes_are) ∙ i.length_is
  by (Fetch d) (Fetched bytes) (events.Load t2 r2 b2) s i = absurd i
  by (Fetch d) (Fetched bytes) (events.Place t2 o2 a2 b2) s i = absurd i
  by (Fetch d) (Fetched bytes) (events.Unload t2 b2) s i = absurd i
  by (Fetch d) (Loaded d2) e s i = absurd i
  by (Fetch d) Placed e s i = absurd i
  by (Fetch d) (Unloaded b2) e s i = absurd i
  by (Fetch d) (Refused n2) e s i = absurd i
  by (Place d bytes) Placed (events.Place token order at placed) s i = _
  by (Place d bytes) Placed (events.Load t2 r2 b2) s i = absurd i
  by (Place d bytes) Placed (events.Fetch t2 a2 b2) s i = absurd i
  by (Place d bytes) Placed (events.Unload t2 b2) s i = absurd i
  by (Place d bytes) (Loaded d2) e s i = absurd i
  by (Place d bytes) (Fetched b2) e s i = absurd i
  by (Place d bytes) (Unloaded b2) e s i = absurd i
  by (Place d bytes) (Refused n2) e s i = absurd i
  by (Unload token) (Unloaded bytes) (events.Unload of left) s i = absurd s
  by (Unload token) (Unloaded bytes) (events.Load t2 r2 b2) s i = absurd i
  by (Unload token) (Unloaded bytes) (events.Fetch t2 a2 b2) s i = absurd i
  by (Unload token) (Unloaded bytes) (events.Place t2 o2 a2 b2) s i = absurd i
  by (Unload token) (Loaded d2) e s i = absurd i
  by (Unload token) (Fetched b2) e s i = absurd i
  by (Unload token) Placed e s i = absurd i
  by (Unload token) (Refused n2) e s i = absurd i
