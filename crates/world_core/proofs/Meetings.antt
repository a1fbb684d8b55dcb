-- What an end was told that has met its peer on a link that is whole.
use Rattle.std.proofs.Common.{◌≡◌, true, false, List, ap, sym, subst, ◌∙◌}
use Rattle.smbd_base.specs.declared.event.Event.{Event}
use Rattle.smbd_base.specs.History.{is_cut}
use Rattle.sim_adapter.specs.declared.view.EndView.{EndView}
use Rattle.sim_adapter.specs.declared.link.Link.{Link}
use Rattle.sim_adapter.specs.declared.pass.Pass.{Pass}
use Rattle.sim_adapter.specs.Passes.{known_by, history_of}
use Rattle.sim_adapter.specs.Plays.{was_cut}
use Rattle.world_core.specs.Met.{Met, seen_of, HaveMet, IsWhole}

not_both : (past past' : List Event) → past ≡ past' → is_cut past' ≡ false → is_cut past ≡ true → ⊥
not_both past past' is uncut cut = cc

-- where one end was told of a cut, the other one is cut
pub client_not_told : (link : Link) (client server client' server' : Pass) (before : Met) (e : EndView) → HaveMet link client' server'
    → seen_of client' server' ≡ seen_of client server → (known_by client').told_cut ≡ (known_by client).told_cut
    → history_of server ≡ before.server → IsWhole before → known_by client ≡ was_cut e → ⊥
client_not_told link client server client' server' before e h same told history whole is =
    not_both (history_of server') before.server (ap (λ (m : Met). m.server) same ∙ history) whole.1
    (h.met.client_cut (told ∙ ap (λ (v : EndView). v.told_cut) is)).0

pub server_not_told : (link : Link) (client server client' server' : Pass) (before : Met) (e : EndView) → HaveMet link client' server'
    → seen_of client' server' ≡ seen_of client server → (known_by server').told_cut ≡ (known_by server).told_cut
    → history_of client ≡ before.client → IsWhole before → known_by server ≡ was_cut e → ⊥
server_not_told link client server client' server' before e h same told history whole is =
    not_both (history_of client') before.client (ap (λ (m : Met). m.client) same ∙ history) whole.0
    (h.met.server_cut (told ∙ ap (λ (v : EndView). v.told_cut) is)).0
