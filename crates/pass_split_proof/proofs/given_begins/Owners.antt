-- The owner of a block that no allocator gave changes: the memories stand beside each other as before.
use Rattle.std.proofs.Common.{◌≡◌, ℕ, ◌<◌, ⊎_elim, List, Option, Some, None, refl, sym, ap, ◌∙◌, subst}
use Rattle.std.specs.Prelude.{slice_get, is_some}
use Rattle.std.proofs.lemmas.Bool.{cases_eq}
use Rattle.pass_split_proof.proofs.states.Closed.{headed_on, lies_by}
use Rattle.pass_split_proof.proofs.states.SameKind.{given_kept}
use Rattle.pass_split_proof.proofs.states.Standing.{open_bytes, twins_stand}
use Rattle.pass_split_proof.proofs.states.Written.{length-changed}
use Rattle.pass_split_proof.specs.given_begins.Room.{ChangesOwner}
use Rattle.pass_split_proof.specs.states.Instances.{AreFrames, AreLaidFrames, is_held, is_held_in}
use Rattle.pass_split_proof.specs.states.Memories.{AreBeside, AreTwins, AreTwinsAt}
use Rattle.pass_proofs.specs.run_framed.Framed.{FramedGiven}
use Rattle.pass_proofs.proofs.run_laws.memory.Written.{changed_elsewhere, changed_here, same_some}
use Rattle.pass_proofs.specs.run_laws.memory.Pointers.{IsByte}
use Rattle.pass_proofs.specs.run_laws.memory.Standing.{byte_of, own_homes}
use Rattle.pass_proofs.specs.run_memory.Memory.{is_live, with_block}
use Rattle.pass_proofs.specs.run_memory.declared.block.Byte.{Byte}
use Rattle.pass_proofs.specs.run_memory.declared.block.Kind.{Kind}
use Rattle.pass_proofs.specs.run_memory.declared.block.MemoryBlock.{MemoryBlock}
use Rattle.pass_proofs.specs.run_source.declared.state.Instance.{Instance}

module _ (g : FramedGiven) (xs : List Instance) (m n : List MemoryBlock) (b : ℕ) (f : MemoryBlock → MemoryBlock)
    (change : ChangesOwner f) (u : MemoryBlock) (there : slice_get m b ≡ Some u)
    (none : u.kind ≡ Kind.Allocator → ⊥) where
  abbrev after : List MemoryBlock
  after = with_block m b f

  -- a block was there before, but for its owner
  record Before (c : ℕ) (y : MemoryBlock) : Type 0 where
    block : MemoryBlock
    stood : slice_get m c ≡ Some block
    same : y ≡ record block { owned = y.owned }
    owned : block.kind ≡ Kind.Allocator → y ≡ block

  before : (c : ℕ) (y : MemoryBlock) → slice_get after c ≡ Some y → Before c y
  before c y e = ⊎_elim
      (λ is.
      let w : f u ≡ y = same_some (f u) y (sym (changed_here m b f u there) ∙ ap (slice_get after) (sym is) ∙ e) in
      record {
        block = u;
        stood = ap (slice_get m) is ∙ there;
        same = subst (λ (z : MemoryBlock). z ≡ record u { owned = z.owned }) w (change u);
        owned = λ kind. absurd (none kind);
      })
      (λ ne. record {
        block = y;
        stood = sym (changed_elsewhere m b c f ne) ∙ e;
        same = refl;
        owned = λ kind. refl;
      })
      (cases_eq c b)

  -- frames are there as before
  pub held_same : (z : Instance) → is_held after z ≡ is_held m z
  held_same z = ⊎_elim
      (λ is. ap (λ (c : ℕ). is_held_in (slice_get after c) z) is
      ∙ ap (λ (o : Option MemoryBlock). is_held_in o z) (changed_here m b f u there)
      ∙ ap (λ (y : MemoryBlock). is_held_in (Some y) z) (change u)
      ∙ sym (ap (λ (o : Option MemoryBlock). is_held_in o z) there)
      ∙ sym (ap (λ (c : ℕ). is_held_in (slice_get m c) z) is))
      (λ ne. ap (λ (o : Option MemoryBlock). is_held_in o z) (changed_elsewhere m b z.block f ne))
      (cases_eq z.block b)

  pub owner_laid : AreLaidFrames g xs m → AreLaidFrames g xs after
  owner_laid frames = record {
    known = λ i z e. subst (λ (k : ℕ). z.block < k) (sym (length-changed m b f)) (frames.known i z e);
    slots = frames.slots;
    owned = λ i z y e unfreed at live kind.
        let w = before z.block y at in
        let k : w.block.kind ≡ Kind.Allocator = sym (ap (λ (q : MemoryBlock). q.kind) w.same) ∙ kind in
        ap (λ (q : MemoryBlock). is_some q.owned) (w.owned k)
        ∙ frames.owned i z w.block e unfreed w.stood (sym (ap (λ (q : MemoryBlock). is_live q.life) w.same) ∙ live) k;
    gone = λ i z y e freed at kind.
        let w = before z.block y at in
        ap (λ (q : MemoryBlock). is_live q.life) w.same
        ∙ frames.gone i z w.block e freed w.stood (sym (ap (λ (q : MemoryBlock). q.kind) w.same) ∙ kind);
    lies = λ i z y e at.
        let w = before z.block y at in
        lies_by g z w.block y (ap (λ (q : MemoryBlock). q.align) w.same) (ap (λ (q : MemoryBlock). q.size) w.same)
        (frames.lies i z w.block e w.stood);
    closed = λ i z y at e held. frames.closed i z y at e (sym (held_same z) ∙ held);
    apart = λ i j z w at ne e e' held held'. frames.apart i j z w at ne e e' (sym (held_same z) ∙ held)
        (sym (held_same w) ∙ held');
  }

  pub owner_frames : AreFrames g xs m n → AreFrames g xs after n
  owner_frames frames = record {
    laid = owner_laid frames.laid;
    headed = λ i z e held. headed_on g m after n z (given_kept f (λ y. ap (λ (q : MemoryBlock). q.kind) (change y)) m b
        z.block z) (frames.headed i z e (sym (held_same z) ∙ held));
  }

  module _ (beside : AreBeside g xs m n) (frames : AreLaidFrames g xs m) where
    twin_here : (o : Option MemoryBlock) → AreTwinsAt (Some u) o → AreTwinsAt (Some (f u)) o
    twin_here None t = absurd t
    twin_here (Some v) t = subst (λ (q : MemoryBlock). AreTwinsAt (Some q) (Some v)) (sym (change u)) (record {
      is = t.is;
      life = t.life;
      long = t.long;
      full = t.full;
      small = t.small;
      sixteen = t.sixteen;
    })

    twin_at_each : (c : ℕ) → AreTwinsAt (slice_get after c) (slice_get n c)
    twin_at_each c = ⊎_elim
        (λ e. subst (λ (k : ℕ). AreTwinsAt (slice_get after k) (slice_get n k)) (sym e)
        (subst (λ (o : Option MemoryBlock). AreTwinsAt o (slice_get n b)) (sym (changed_here m b f u there))
        (twin_here (slice_get n b) (subst (λ (o : Option MemoryBlock). AreTwinsAt o (slice_get n b)) there
        (beside.twins.each b)))))
        (λ ne. subst (λ (o : Option MemoryBlock). AreTwinsAt o (slice_get n c)) (sym (changed_elsewhere m b c f ne))
        (beside.twins.each c))
        (cases_eq c b)

    twins : AreTwins after n
    twins = record { each = twin_at_each; long = beside.twins.long ∙ sym (length-changed m b f) }

    pub owner_beside : AreBeside g xs after n
    owner_beside = record {
      twins = twins;
      stands = twins_stand g xs after n twins (owner_laid frames).lies (λ c i y v e e' live lt opened.
          let w = before c y e in
          let l = sym (ap (λ (q : MemoryBlock). is_live q.life) w.same) ∙ live in
          let bytes : byte_of w.block i ≡ byte_of y i = sym (ap (λ (q : MemoryBlock). byte_of q i) w.same) in
          let lt' : i < w.block.size = subst (λ (k : ℕ). i < k) (ap (λ (q : MemoryBlock). q.size) w.same) lt in
          subst (λ (p : ℕ × Byte). IsByte (own_homes 0 p.0) p.1 (byte_of v i))
          (λ j. (sym (length-changed m b f) j, bytes j))
          (open_bytes g xs m n beside.stands c i w.block v w.stood e' l lt' opened));
    }
