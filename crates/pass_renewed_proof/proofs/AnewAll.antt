-- A resumed activation makes its slots anew, one after another: all that was said of blocks and slots still is.
use Rattle.std.proofs.Common.{◌≡◌, ℕ, List, [], ◌∷◌, length}
use Rattle.std.proofs.Common.{Option, refl, ap, ◌∙◌}
use Rattle.std.proofs.lemmas.List.{length-replicate}
use Rattle.pass_kept_proof.specs.ir_model.Layout.{size_of}
use Rattle.pass_kept_proof.specs.ir_model.declared.module.Module.{Module}
use Rattle.run_framed.specs.Framed.{at_point, with_mode}
use Rattle.run_laws.specs.memory.Pointers.{Home, home_of}
use Rattle.run_laws.specs.memory.Standing.{blank_block}
use Rattle.pass_kept_proof.specs.run_memory.declared.block.Byte.{Byte}
use Rattle.pass_kept_proof.specs.run_memory.declared.block.MemoryBlock.{MemoryBlock}
use Rattle.pass_kept_proof.specs.run_source.State.{function_of}
use Rattle.pass_kept_proof.specs.run_source.declared.state.Mode.{Mode}
use Rattle.pass_kept_proof.specs.run_source.declared.state.State.{State}
use Rattle.pass_kept_proof.specs.run_step.Step.{alloca_kind}
use Rattle.pass_renewed_proof.proofs.Anew.{about_there, anew_carried, anew_entered, anew_kept}
use Rattle.pass_renewed_proof.proofs.Carried.{IsCarried, IsSlotKept, same_carried, same_kept}
use Rattle.pass_renewed_proof.proofs.Made.{get_there}
use Rattle.pass_renewed_proof.proofs.Places.{grown}
use Rattle.pass_renewed_proof.proofs.Ready.{trans_extends}
use Rattle.pass_renewed_proof.specs.Entering.{Anew, made_all, made_anew}
use Rattle.pass_renewed_proof.specs.Ledger.{AreEntered, Ledger, Seen, anew_ledger}
use Rattle.pass_renewed_proof.specs.Muted.{muted}
use Rattle.pass_renewed_proof.specs.Places.{AreStanding}
use Rattle.pass_renewed_proof.specs.Renewed.{RenewedGiven}

-- what was said of blocks is said behind two steps if it is behind each
trans_carried : (l k j : Ledger) (m a b c : List MemoryBlock) → IsCarried l k m m a b → IsCarried k j m m b c
    → IsCarried l j m m a c
trans_carried l k j m a b c p q = record {
  extends = trans_extends l.homes k.homes j.homes p.extends q.extends;
  seats = λ n seat h. q.seats n seat (p.seats n seat h);
  unseated = λ n seen h.
      q.unseated n (ap (λ (z : Home). z.is_seen) (p.extends.each n seen) ∙ seen) (p.unseated n seen h);
  owners = λ n d h. q.owners n d (p.owners n d h);
  tenants = λ n d h. q.tenants n d (p.owners n d h) ∙ p.tenants n d h;
  ready = λ n d e seat is h old. q.ready n d e seat (p.seats n seat is) (p.owners d e h) (p.ready n d e seat is h
      old);
}

trans_kept : (l k j : Ledger) (m : List MemoryBlock) (b : ℕ) → IsSlotKept l k m m b → IsSlotKept k j m m b
    → IsSlotKept l j m m b
trans_kept l k j m b p q = record {
  home = q.home ∙ p.home;
  hides = q.hides ∙ p.hides;
  fresh = λ h. q.fresh (p.fresh h);
  lives = λ h. p.lives (q.lives h);
  gone = λ h. q.gone (p.gone h);
}

-- all that is said of it
pub record AreAnew (m : Module) (l k : Ledger) (memory target after : List MemoryBlock) : Type 0 where
  pub standing : AreStanding k.homes (muted k.hides memory) after
  pub entered : AreEntered m k memory after
  pub carried : IsCarried l k memory memory target after
  pub kept : (b : ℕ) → IsSlotKept l k memory memory b
  pub homes : k.homes ≡ l.homes
  pub hides : k.hides ≡ l.hides
  pub seats : k.seats ≡ l.seats

module _ (m : Module) (memory : List MemoryBlock) (depth : ℕ) (tenant : ℕ
    → Option ℕ) (g : RenewedGiven) (from label : ℕ) where
  -- the state behind one slot
  abbrev behind : State → Anew → State
  behind s x = made_anew g (at_point (with_mode s (Mode.Entering from label)) (record {
    block = 0;
    at = x.at;
  })) x.name x.ty x.align

  one_anew : (l : Ledger) (s : State) (x : Anew) → AreStanding l.homes (muted l.hides memory) s.world.memory
      → AreEntered m l memory s.world.memory
      → AreAnew m l (anew_ledger l (length s.world.memory) depth (tenant x.name)) memory s.world.memory (behind s
      x).world.memory
  one_anew l s x st e =
      let y : MemoryBlock = blank_block (size_of g.given.code x.ty) x.align (alloca_kind (function_of g.given s)) in
      let whole : length y.bytes ≡ y.size = length-replicate (size_of g.given.code x.ty) Byte.Undefined in
      record {
        standing = grown l.homes (muted l.hides memory) s.world.memory (y ∷ [])
            (λ b seen. get_there s.world.memory (home_of l.homes b).block (about_there l memory s.world.memory b st
            e.known (Seen seen))) st;
        entered = anew_entered m l memory s.world.memory y depth (tenant x.name) st e whole refl;
        carried = anew_carried m l memory s.world.memory y depth (tenant x.name) st e whole refl;
        kept = anew_kept m l memory s.world.memory y depth (tenant x.name) st e whole refl;
        homes = refl;
        hides = refl;
        seats = refl;
      }

  pub all_anew : (l : Ledger) (s : State) (xs : List Anew) → AreStanding l.homes (muted l.hides memory) s.world.memory
      → AreEntered m l memory s.world.memory
      → (k : Ledger) × AreAnew m l k memory s.world.memory (made_all g from label s xs).world.memory
  all_anew l s [] st e = (
    l,
    record {
      standing = st;
      entered = e;
      carried = same_carried l memory s.world.memory;
      kept = same_kept l memory;
      homes = refl;
      hides = refl;
      seats = refl;
    },
  )
  all_anew l s (x ∷ xs) st e =
      let k = anew_ledger l (length s.world.memory) depth (tenant x.name) in
      let p = one_anew l s x st e in
      let rest = all_anew k (behind s x) xs p.standing p.entered in (
        rest.0,
        record {
          standing = rest.1.standing;
          entered = rest.1.entered;
          carried = trans_carried l k rest.0 memory s.world.memory (behind s x).world.memory (made_all g from label s (x
              ∷ xs)).world.memory p.carried rest.1.carried;
          kept = λ b. trans_kept l k rest.0 memory b (p.kept b) (rest.1.kept b);
          homes = rest.1.homes ∙ p.homes;
          hides = rest.1.hides ∙ p.hides;
          seats = rest.1.seats ∙ p.seats;
        },
      )
