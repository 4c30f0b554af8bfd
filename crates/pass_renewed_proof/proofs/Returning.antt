-- An activation returns in both runs: its slots die, and its caller is given what stands for the first run's value.
use Rattle.std.proofs.Common.{◌≡◌, ◌≢◌, ℕ, zero, suc, ◌⊎◌, inl, inr, Bool, true, false, List, ◌∷◌}
use Rattle.std.proofs.Common.{length, Option, Some, None, refl, sym, ap, ◌∙◌, subst, ⊎_elim, arith}
use Rattle.std.proofs.lemmas.Bool.{false≢true}
use Rattle.std.specs.Prelude.{IsTrue, slice_get, unwrap_or}
use Rattle.std.specs.List.{Contains}
use Rattle.pass_kept_proof.specs.ir_model.Names.{function_at}
use Rattle.pass_kept_proof.specs.ir_model.declared.module.Module.{Module}
use Rattle.run_laws.proofs.memory.Written.{same_some}
use Rattle.run_laws.specs.memory.Pointers.{IsValue, home_of}
use Rattle.pass_kept_proof.specs.run_memory.Memory.{is_killed, is_live}
use Rattle.pass_kept_proof.specs.run_memory.declared.block.Life.{Life}
use Rattle.pass_kept_proof.specs.run_memory.declared.block.MemoryBlock.{MemoryBlock}
use Rattle.pass_kept_proof.specs.run_memory.declared.pointer.Value.{Value}
use Rattle.pass_kept_proof.specs.run_source.Source.{given_back, is_over}
use Rattle.pass_kept_proof.specs.run_source.declared.state.Activation.{Activation}
use Rattle.pass_kept_proof.specs.run_source.declared.state.State.{State}
use Rattle.pass_kept_proof.specs.run_step.Step.{Fetched, without_slots}
use Rattle.pass_kept_proof.specs.run_step.Values.{pointer_to, value_in}
use Rattle.pass_kept_proof.specs.run_step.declared.world.Slot.{Slot}
use Rattle.frame_classes.specs.frame_slots.Spots.{Spot}
use Rattle.pass_renewed_proof.proofs.Carried.{below_kept, instances_kept, same_func, slots_on}
use Rattle.pass_renewed_proof.proofs.Departing.{AreLeft}
use Rattle.pass_renewed_proof.proofs.DeadSlots.{IsUnseenIn, all_die, all_given, both_lists, killed_all, listed_dead}
use Rattle.pass_renewed_proof.proofs.DeadSlots.{lived_before, own_are, own_blocks, shared}
use Rattle.pass_renewed_proof.proofs.Listing.{instance_beside}
use Rattle.pass_renewed_proof.proofs.Touching.{IsTouching, below_touched, instance_touched, touched_carried}
use Rattle.pass_renewed_proof.proofs.Touching.{touched_entered, touched_gone, touched_over}
use Rattle.pass_renewed_proof.proofs.Valued.{valued}
use Rattle.pass_renewed_proof.specs.Beside.{AreOutdone, AreSlots, Begun, Both, Early, First, HasLeftSuspended}
use Rattle.pass_renewed_proof.specs.Beside.{IsActivationBeside, IsBeside, IsEarly, IsOverOf, IsOwn, IsSlotBeside}
use Rattle.pass_renewed_proof.specs.Beside.{IsSlotOf, NoSlots, Second}
use Rattle.pass_renewed_proof.specs.Chosen.{places_at}
use Rattle.pass_renewed_proof.specs.Ledger.{IsGone, Ledger, LivesIn, Seat, used_ledger}
use Rattle.pass_renewed_proof.specs.Renewed.{Flags, Roots}
use Rattle.pass_renewed_proof.specs.SlotRules.{KeepsSlots}

-- the values that are returned stand for one another
abbrev pub AreReturned : Ledger → Option Value → Option Value → Type 0
AreReturned l None u = u ≡ None
AreReturned l (Some v) u = (w : Value) × (u ≡ Some w) × IsValue l.homes v w

returned_stand : (l : Ledger) (v u : Option Value) → AreReturned l v u
    → IsValue l.homes (unwrap_or v Value.Poison) (unwrap_or u Value.Poison)
returned_stand l None u h = tt
returned_stand l (Some v) u h = subst (λ (z : Option Value). IsValue l.homes v (unwrap_or z Value.Poison)) (sym h.1) h.2

not_gone : (memory : List MemoryBlock) (b : ℕ) → IsGone memory b → LivesIn memory b → ⊥
not_gone memory b gone live = both live.block.life (gone live.block live.there) live.is_live
  where
    both : (z : Life) → is_killed z ≡ true → is_live z ≡ true → ⊥
    both Life.Live e k = false≢true e
    both Life.Ended e k = false≢true e
    both Life.Killed e k = false≢true k

-- a listed slot has no seat, or is one that may be made anew
listed_is : (l : Ledger) (S O : Slot → Type 0) (flags : ℕ → Bool) (ss ts : List Slot) → AreSlots l S O flags ss ts
    → (slot : Slot) → Contains ss slot → (l.seats slot.block ≡ None) ⊎ S slot
listed_is l S O flags _ _ NoSlots slot (k, lt, e) = absurd (omega arith)
listed_is l S O flags _ _ (Both alloca b d ss ts off home none rest) slot (zero, lt, e) = inl (ap (λ (z : Slot). l.seats
    z.block) (sym e) ∙ none)
listed_is l S O flags _ _ (Both alloca b d ss ts off home none rest) slot (suc k, lt, e) = listed_is l S O flags ss ts
    rest slot (k, omega arith, e)
listed_is l S O flags _ _ (First s ss ts is rest) slot (zero, lt, e) = inr (subst S e is)
listed_is l S O flags _ _ (First s ss ts is rest) slot (suc k, lt, e) = listed_is l S O flags ss ts rest slot (
  k,
  omega
      arith,
  e,
)
listed_is l S O flags ss _ (Second t _ ts is rest) slot c = listed_is l S O flags ss ts rest slot c

module _ (m : Module) (flags : Flags) (roots : Roots) (keeps : (func : ℕ)
    → KeepsSlots m (function_at m func) (flags func) (roots func)) (s t : State) (beside : IsBeside m flags roots s t)
    (reading : Fetched) (spot : Spot) (touching : IsTouching m roots s.top reading spot) (over : s.top.instance ≢ None
    → s.top.has_left ≡ false → IsOverOf s.instances s.top) (outdone : AreOutdone s.instances s.top s.below)
    (asleep : HasLeftSuspended s.instances s.top) where
  abbrev l : Ledger
  l = beside.ledger

  abbrev k : Ledger
  k = used_ledger m beside.ledger (places_at (roots s.top.func) s.top.values beside.top.values reading)

  abbrev h : IsActivationBeside m flags roots beside.ledger s.instances s.world.memory t.world.memory (length s.below)
      s.top t.top
  h = beside.top

  abbrev S : Slot → Type 0
  S = IsEarly beside.ledger (flags s.top.func) s.top.func (length s.below)

  abbrev O : Slot → Type 0
  O = IsOwn beside.ledger (flags s.top.func) (length s.below) s.top.values beside.top.values

  listed : AreSlots k S O (flags s.top.func) s.top.slots beside.top.slots
  listed = slots_on m flags roots l k s.instances s.instances s.world.memory s.world.memory t.world.memory
      t.world.memory (touched_carried m flags roots keeps s t beside reading spot touching) S S O O (flags s.top.func)
      (λ slot z. z) (λ slot z. z) s.top.slots h.slots h.listed

  before : AreLeft m flags roots k s.instances t.instances s.world.memory t.world.memory s.top.result s.below t.below
  before =
      let o = touched_over m flags roots keeps s t beside reading spot touching in
      let c = touched_carried m flags roots keeps s t beside reading spot touching in
      record {
        standing = record { memory = o.memory; nulls = o.nulls; bounds = o.bounds };
        entered = touched_entered m flags roots keeps s t beside reading spot touching;
        instances = instances_kept m flags roots l k s.instances s.instances s.world.memory s.world.memory
            t.world.memory t.world.memory c 0 s.instances t.instances (instance_touched m flags roots keeps s t beside
            reading spot touching asleep) beside.instances;
        below = below_kept m flags roots l k s.instances s.instances s.world.memory s.world.memory t.world.memory
            t.world.memory c s.top.result s.below t.below (below_touched m flags roots keeps s t beside reading spot
            touching s.below (omega arith) outdone) beside.below;
      }

  abbrev gone_memory : List MemoryBlock
  gone_memory = without_slots s.world.memory s.top.slots

  -- ---- what stands in an own block of the activation

  own_unseen : (c : Slot) → O c → IsUnseenIn k (without_slots s.world.memory s.top.slots) c.block
  own_unseen c own b tenant live is = on s.top.has_left refl
    where
      at : value_in s.top.values c.alloca ≡ pointer_to b
      at = own.tenant b tenant

      old : IsSlotBeside m l s.instances s.world.memory t.world.memory (length s.below) s.top c.alloca b c.block
      old = h.each c.alloca b c.block own.flagged at own.address

      lives : LivesIn s.world.memory b
      lives = lived_before s.top.slots s.world.memory b live

      stays : s.top.has_left ≡ false → IsSlotOf s.instances s.top (record { alloca = c.alloca; block = b })
          → (home_of k.homes b).is_seen ≡ false
      stays e (Early none is_its) = absurd (listed_dead s.top.slots s.world.memory (record {
        alloca = c.alloca;
        block = b;
      }) is_its live)
      stays e (Begun i x has there is_its) =
          let w = over (λ none. let q : Some i ≡ None = sym has ∙ none in absurd (cc)) e in
          let same : i ≡ w.number = same_number i w.number (sym has ∙ w.own) in
          let same_x : w.instance ≡ x = same_some w.instance x (sym w.there ∙ ap (slice_get s.instances) (sym same)
          ∙ there) in
          let r = instance_beside m flags roots l s.world.memory 0 s.instances t.instances i x beside.instances there in
          absurd (⊎_elim
          (λ none. clash (sym none ∙ old.seat))
          (λ seated.
          let func : x.coroutine ≡ s.top.func = same_func (sym seated.seat ∙ old.seat) in
          not_gone s.world.memory b (r.2.over (ap is_over (sym same_x) ∙ w.over) (record {
            alloca = c.alloca;
            block = b;
          }) is_its (subst (λ g. IsTrue (flags g c.alloca)) (sym func) own.flagged)) lives)
          (listed_is l _ _ (flags x.coroutine) x.slots r.2.slots r.2.listed (record {
            alloca = c.alloca;
            block = b;
          }) is_its))
        where
          same_number : (i j : ℕ) → Some i ≡ Some j → i ≡ j
          same_number i j e = cc

          clash : {q : Seat} → None ≡ Some q → ⊥
          clash e = absurd (cc)

      left : s.top.has_left ≡ true → (z : Bool) → (home_of k.homes b).is_seen ≡ z → (home_of k.homes b).is_seen ≡ false
      left e true seen = absurd (touched_gone m flags roots keeps s t beside reading spot touching c.alloca b c.block
          own.flagged at own.address e lives seen is)
      left e false seen = seen

      on : (z : Bool) → s.top.has_left ≡ z → (home_of k.homes b).is_seen ≡ false
      on true e = left e (home_of k.homes b).is_seen refl
      on false e = stays e old.slot

  -- ---- all slots die

  pub died : (hs : ℕ → Bool) × AreLeft m flags roots (record k { hides = hs }) s.instances t.instances (without_slots
      s.world.memory s.top.slots) (without_slots t.world.memory beside.top.slots) s.top.result s.below t.below
  died = subst (λ (n : List MemoryBlock). (hs : ℕ → Bool) × AreLeft m flags roots (record k { hides = hs }) s.instances
      t.instances gone_memory n s.top.result s.below t.below) (sym (both_lists k S O (flags s.top.func) s.top.slots
      h.slots listed t.world.memory)) (all_given m flags roots s.instances t.instances s.top.result s.below t.below
      (own_blocks k S O (flags s.top.func) s.top.slots h.slots listed) (length s.below) (omega arith) k gone_memory
      (killed_all t.world.memory (shared k S O (flags s.top.func) s.top.slots h.slots listed)) (own_are k S O (flags
      s.top.func) (λ c. (k.owners c ≡ Some (length s.below)) × IsUnseenIn k gone_memory c) (λ c own. (
        own.owner,
        own_unseen c own,
      )) s.top.slots h.slots listed) (all_die m flags roots s.instances t.instances s.top.result s.below t.below k S O
      (flags s.top.func) (λ c z. (
        record {
          func = s.top.func;
          alloca = c.alloca;
          depth = length s.below;
          instance = None;
        },
        z.seat,
      )) s.top.slots h.slots listed s.world.memory t.world.memory before))

  -- ---- the caller goes on

  module _ (v u : Option Value) (stand : AreReturned k v u) (a b : Activation) (as' bs : List Activation) where
    abbrev s' : State
    s' = record s {
      world = record s.world { memory = without_slots s.world.memory s.top.slots };
      top = given_back a s.top.result v;
      below = as';
    }

    abbrev t' : State
    t' = record t {
      world = record t.world { memory = without_slots t.world.memory beside.top.slots };
      top = given_back b s.top.result u;
      below = bs;
    }

    pub goes_back : (hs : ℕ → Bool) → AreLeft m flags roots (record k { hides = hs }) s.instances t.instances
        (without_slots s.world.memory s.top.slots) (without_slots t.world.memory beside.top.slots) s.top.result (a
        ∷ as') (b ∷ bs) → IsBeside m flags roots s' t'
    goes_back hs r = record {
      ledger = record k { hides = hs };
      outcome = beside.outcome;
      world = record {
        memory = r.standing.memory;
        nulls = r.standing.nulls;
        bounds = r.standing.bounds;
        events = beside.world.events;
        answers = beside.world.answers;
        allocs = beside.world.allocs;
      };
      entered = r.entered;
      instances = r.instances;
      top = valued m flags roots keeps (record k { hides = hs }) s.instances gone_memory (without_slots t.world.memory
          beside.top.slots) s.world (length as') a b r.below.0 s.top.result r.below.1 (unwrap_or v Value.Poison)
          (unwrap_or u Value.Poison) (returned_stand k v u stand);
      below = r.below.2;
    }
