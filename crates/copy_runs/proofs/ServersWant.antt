-- The server of a get wants whole groups, until the end of the bytes was seen.
use Rattle.std.proofs.Common.{◌≡◌, ℕ, Bool, true, false, Option, Some, List, refl, ap, arith}
use Rattle.smbd_base.specs.Pages.{PageState}
use Rattle.file_messages.specs.declared.kind.Channel.{Channel}
use Rattle.file_messages.specs.declared.kind.CopyKind.TheVariants as kinds
use Rattle.file_messages.specs.Runs.{get_requests}
use Rattle.file_pasts.specs.ServerDue.{source_in_hand, wants_source}
use Rattle.file_pasts.specs.ServerLaws.{AsksFor, NothingRefused}
use Rattle.file_pasts.proofs.ServerReplies.{serves}
use Rattle.page_workers.specs.Workers.{WorkerState}
use Rattle.copy_laws.specs.Coupled.{Pasts}
use Rattle.copy_laws.specs.Growing.{bytes_filled}
use Rattle.copy_runs.specs.CopyPasts.{is_short, IsCopy}
use Rattle.copy_runs.specs.Laws.{WantsWhole, ServersWant}
use Rattle.copy_runs.proofs.GetCopies.{get-asks, get-refused}
use Rattle.copy_runs.proofs.SourceSeen.{in_hand, ReadWants, read-wants, short-last}

module _ (channel : Channel) (workers count : ℕ) (p : Pasts) (pages : List PageState) (cs ss : List WorkerState) (most : ℕ) (c : IsCopy kinds.Get channel workers count p pages cs ss)
    (wants : wants_source kinds.Get p.server ≡ Some most) where
  abbrev bytes : List ℕ
  bytes = bytes_filled p.server

  asks : AsksFor (get_requests channel bytes) p.server
  asks = get-asks workers count p pages cs ss channel c

  refused : NothingRefused p.server
  refused = get-refused workers count p pages cs ss channel c

  w : ReadWants channel bytes p.server most
  w = read-wants channel bytes p.server most (serves kinds.Get bytes (get_requests channel bytes) p.server c.server asks refused c.carried.0) wants

  pub want-whole : WantsWhole most p.server
  want-whole = record { whole = w.most_is; goes_on = by_short (is_short p.server) refl } where
    by_short : (t : Bool) → is_short p.server ≡ t → is_short p.server ≡ false
    by_short false e = e
    by_short true e =
        let last = short-last channel bytes p.server c.server asks refused c.carried.0 e in
        let nothing : in_hand (source_in_hand p.server) ≡ 0 = ap (λ (o : Option (List ℕ)). in_hand o) w.none in
        let less = w.less in
        absurd (omega (arith, last, nothing, less))

pub servers-want : ServersWant
servers-want channel workers count p pages cs ss most c wants = want-whole channel workers count p pages cs ss most c wants
