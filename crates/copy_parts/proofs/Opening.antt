-- A copy that was just opened.
use Rattle.std.proofs.Common.{◌≡◌, inl, ℕ, zero, suc, ◌<◌, ◌^◌, Option, Some, None, List, [], length, map, refl, sym, ap, ◌∙◌, subst, arith}
use Rattle.std.proofs.lemmas.List.{length-replicate}
use Rattle.smbd_base.specs.Limits as limits
use Rattle.smbd_base.specs.Limits.{Limits}
use Rattle.smbd_base.specs.Pages.{opened_page}
use Rattle.world_core.specs.Run.{State, opened_world, AreJointIn, AreDelivered}
use Rattle.file_messages.specs.declared.kind.CopyKind.{CopyKind}
use Rattle.file_messages.specs.declared.kind.CopyKind.TheVariants as kinds
use Rattle.file_messages.specs.declared.kind.Channel.{Channel}
use Rattle.file_messages.specs.Messages.{reply_bytes}
use Rattle.file_messages.specs.Runs.{get_requests, replies_to}
use Rattle.file_server.specs.declared.server.FileServer.{FileServer}
use Rattle.file_server.specs.ServerStands.{CameBy}
use Rattle.copy_laws.specs.Kinds.{IsClient}
use Rattle.copy_laws.specs.Steps.{opened_pasts}
use Rattle.copy_laws.proofs.StepsOpened.{opens}
use Rattle.copy_runs.specs.CopyPasts.{bytes_of, Carries}
use Rattle.copy_ends.specs.Cuts.{frames_sent, AreLeft}
use Rattle.copy_ends.specs.declared.client_machine.ClientMachine.{ClientMachine}
use Rattle.copy_ends.specs.Clients.{ClientCameBy}
use Rattle.copy_ends.proofs.Opened.{opened_up, opened_follows}
use Rattle.page_crew.specs.Crews.{CrewState, opened_crew}
use Rattle.page_crew.proofs.Opening.{opened-sized, opened-coupled}
use Rattle.copy_parts.specs.declared.options.CopyOptions.{CopyOptions}
use Rattle.copy_parts.specs.Cuts.{EmitsFewer}
use Rattle.copy_parts.specs.Options.{AreLawful}
use Rattle.copy_parts.specs.Copies.{IsConnected, AreTied, AreManned, AreRuled, IsUnderWay}
use Rattle.copy_parts.specs.Steps.{IsOpened}

client-rules : (kind : CopyKind) (channel : Channel) (pages : ℕ) → IsClient kind channel pages []
client-rules kinds.Put channel pages = tt
client-rules kinds.Get channel pages = tt

no-bytes : (kind : CopyKind) → bytes_of kind opened_pasts ≡ []
no-bytes kinds.Put = refl
no-bytes kinds.Get = refl

carries-none : (kind : CopyKind) (channel : Channel) → Carries kind channel opened_pasts
carries-none kinds.Put channel = tt
carries-none kinds.Get channel = (tt, (map reply_bytes (replies_to [] (get_requests channel [])), refl))

-- frames are numbered from 1, and none was sent
pub none-sent : (cut : Option ℕ) (l : Limits) → (cut ≡ Some 0 → ⊥) → EmitsFewer cut (opened_world l l).client
none-sent None l numbered = tt
none-sent (Some zero) l numbered = absurd (numbered refl)
none-sent (Some (suc n)) l numbered = omega arith

connected : (o : CopyOptions) → AreLawful o → limits.IsLawful o.limits → AreJointIn (opened_world o.limits o.limits) → AreDelivered (opened_world o.limits o.limits)
    → IsConnected o (opened_world o.limits o.limits)
connected o may lawful joint delivered = record {
  link = inl (opened_up o.limits o.limits);
  few = none-sent o.cut o.limits may.numbered;
  client_limits = refl;
  server_limits = refl;
  lawful = lawful;
  joint = joint;
  delivered = delivered;
  follows = opened_follows o.limits o.limits.credits;
}

tied : (l : Limits) → AreTied opened_pasts (opened_world l l)
tied l = record { sent = refl; heard = refl; replied = refl; asked = refl }

manned : (o : CopyOptions) → AreLawful o → limits.IsLawful o.limits → AreManned o opened_pasts (opened_crew o.workers o.limits.pages)
manned o lawful l =
    let crew : CrewState = opened_crew o.workers o.limits.pages in
    record {
      sized = opened-sized o.workers o.limits.pages crew.region crew.clients crew.servers lawful.some lawful.few l.pages.0 l.pages.1 refl refl refl;
      workers = (opens o.workers o.limits.pages).clients.count;
      pages = length-replicate o.limits.pages (opened_page 1);
      coupled = opened-coupled o.workers o.limits.pages crew.region.pages crew.clients crew.servers refl refl refl;
    }

ruled : (o : CopyOptions) → AreRuled o opened_pasts
ruled o = record {
  client = client-rules o.kind o.channel o.limits.pages;
  server = tt;
  copyable = subst (λ (bytes : List ℕ). length bytes < 2 ^ 39) (sym (no-bytes o.kind)) (let z : 0 < 2 ^ 39 = omega arith in z);
  carried = carries-none o.kind o.channel;
}

pub opened-parts : (o : CopyOptions) (pages : ℕ) (w : State) (m : ClientMachine) (s : FileServer) (c : CrewState) (left : Option ℕ) → AreLawful o → limits.IsLawful o.limits
    → pages ≡ o.limits.pages → w ≡ opened_world o.limits o.limits → AreJointIn w → AreDelivered w → ClientCameBy o.kind o.channel pages [] m → CameBy o.kind [] s
    → c ≡ opened_crew o.workers pages → AreLeft o.cut 0 left → IsOpened o (record { world = w; client = m; server = s; crew = c; left = left })
opened-parts o pages w m s c left lawful l many world joint delivered client server crew before =
    let fresh : State = opened_world o.limits o.limits in
    let full : CrewState = opened_crew o.workers o.limits.pages in
    let is : c ≡ full = crew ∙ ap (λ (n : ℕ). opened_crew o.workers n) many in
    let begun : IsUnderWay o opened_pasts fresh full = record {
      connected = connected o lawful l (subst (λ (x : State). AreJointIn x) world joint) (subst (λ (x : State). AreDelivered x) world delivered);
      tied = tied o.limits;
      manned = manned o lawful l;
      ruled = ruled o;
    } in
    record {
      world = world;
      crew = is;
      stands = record {
        under_way = subst (λ (x : State). IsUnderWay o opened_pasts x c) (sym world) (subst (λ (x : CrewState). IsUnderWay o opened_pasts fresh x) (sym is) begun);
        client = subst (λ (n : ℕ). ClientCameBy o.kind o.channel n [] m) many client;
        server = server;
        left = subst (λ (x : State). AreLeft o.cut (frames_sent x.client) left) (sym world) before;
      };
    }
