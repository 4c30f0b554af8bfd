-- An ordinary instruction that uses slots of its activation does the same in both runs, and all blocks stand behind
-- it.
use Rattle.std.proofs.Common.{◌≡◌, ℕ, zero, suc, ◌<◌, Bool, true, List, [], ◌∷◌, length, Option, Some, refl, sym}
use Rattle.std.proofs.Common.{ap, ◌∙◌, subst, ⊎_elim, ◌==◌, nat_le}
use Rattle.std.specs.Prelude.{IsTrue, slice_get, ℤ}
use Rattle.pass_kept_proof.specs.ir_model.Names.{function_at}
use Rattle.pass_kept_proof.specs.ir_model.declared.module.Function.{Function}
use Rattle.pass_kept_proof.specs.ir_model.declared.module.Module.{Module}
use Rattle.pass_kept_proof.specs.ir_paths.Slots.{addresses_of, addresses_within, has_name, is_gep}
use Rattle.pass_kept_proof.specs.ir_paths.Windows.{points_where}
use Rattle.frame_classes.specs.frame_slots.Spots.{At, IsUse}
use Rattle.pass_kept_proof.proofs.Same.{eq_itself, or_left}
use Rattle.run_laws.specs.changed.Changed.{Each}
use Rattle.run_laws.specs.embedded.Refilled.{AreRefilled, OnlyRefills}
use Rattle.run_laws.specs.embedded.Related.{HasBytes, HasDistance, HasNoSlot}
use Rattle.run_laws.proofs.access.Bytes.{bytes_left}
use Rattle.run_laws.proofs.access.Reading.{as_many}
use Rattle.run_laws.specs.access.Accessed.{Span, writes}
use Rattle.run_laws.specs.access.Changed.{IsFull, LeavesBytes, WritesOnly}
use Rattle.run_laws.proofs.embedded.Refills.{step_only}
use Rattle.pass_kept_proof.specs.run_memory.Memory.{bytes_in, is_live, owner_rights}
use Rattle.pass_kept_proof.specs.run_memory.declared.block.MemoryBlock.{MemoryBlock}
use Rattle.pass_kept_proof.specs.run_memory.declared.pointer.Value.{Value}
use Rattle.pass_kept_proof.specs.run_source.declared.state.Activation.{Activation}
use Rattle.pass_kept_proof.specs.run_source.declared.state.Instance.{Instance}
use Rattle.pass_kept_proof.specs.run_step.Step.{Context, Done, Fetched, Work, action_of, fetch}
use Rattle.pass_kept_proof.specs.run_step.Values.{pointer_to, value_in}
use Rattle.pass_kept_proof.specs.run_step.declared.world.World.{World}
use Rattle.pass_renewed_proof.proofs.Carried.{same_alloca}
use Rattle.pass_renewed_proof.proofs.Ready.{each_map, fade, stood_length, used_step}
use Rattle.pass_renewed_proof.proofs.ShownSteps.{step_shown}
use Rattle.pass_renewed_proof.proofs.Reading.{read_used}
use Rattle.pass_renewed_proof.proofs.Stands.{at_place, use_stands}
use Rattle.pass_renewed_proof.proofs.Used.{refilled_from, used_entered}
use Rattle.pass_renewed_proof.proofs.Using.{IsGoodPlace, all_places, all_settled, all_theirs, apart, good_places, uses}
use Rattle.pass_renewed_proof.specs.Beside.{IsActivationBeside, IsSlotBeside, place_in}
use Rattle.pass_renewed_proof.specs.Chosen.{IsPlaceOf, places_at}
use Rattle.pass_renewed_proof.specs.Ordinary.{IsOrdinary}
use Rattle.pass_renewed_proof.specs.Ledger.{AreEntered, Ledger, is_quiet, used_ledger}
use Rattle.pass_renewed_proof.specs.Muted.{IsShownOperand}
use Rattle.pass_renewed_proof.specs.Ready.{IsPlace, IsUsing, Place, shown_of, stood}
use Rattle.pass_renewed_proof.specs.Renewed.{Flags, Roots}
use Rattle.pass_renewed_proof.specs.Shown.{AreShownBlocks, IsShownAction, KeepsShown, spread_at}
use Rattle.pass_renewed_proof.specs.SlotEnvs.{AreRoots}
use Rattle.pass_renewed_proof.specs.SlotRules.{KeepsSlots}
use Rattle.pass_renewed_proof.specs.Small.{ComparesSmall}
use Rattle.pass_renewed_proof.specs.Steps.{AreOver, AreSet, GoesOver, given_at}

-- a slot's own name is one of its addresses
own_within : (n : ℕ) (f : Function) (a : ℕ) → has_name (addresses_within n f a) a ≡ true
own_within zero f a = or_left (a == a) _ (eq_itself a)
own_within (suc n) f a = or_left (a == a) _ (eq_itself a)

pub own_address : (f : Function) (a : ℕ) → IsTrue (has_name (addresses_of f a) a)
own_address f a = own_within (length (points_where is_gep f)) f a

pub roots_of : (m : Module) (f : Function) (flags : ℕ → Bool) (roots : ℕ → Option ℕ) → KeepsSlots m f flags roots
    → AreRoots roots
roots_of m f flags roots keeps v a e = keeps.addresses a a (keeps.rooted v a e).0 (own_address f a)

-- two flagged allocas have two blocks
pub one_slot : (m : Module) (flags : Flags) (roots : Roots) → ((func : ℕ)
    → KeepsSlots m (function_at m func) (flags func) (roots func)) → (l : Ledger) (xs : List Instance) (memory target :
    List MemoryBlock) (depth : ℕ) (a b : Activation) → IsActivationBeside m flags roots l xs memory target depth a b
    → (i j d : ℕ) → roots a.func i ≡ Some i → roots a.func j ≡ Some j → value_in a.values i ≡ pointer_to d
    → value_in a.values j ≡ pointer_to d → i ≡ j
one_slot m flags roots keeps l xs memory target depth a b h i j d ri rj vi vj = ⊎_elim
    (λ poison. let k : Value.Poison ≡ pointer_to d = sym poison ∙ vi in absurd (cc))
    (λ ai. ⊎_elim
    (λ poison. let k : Value.Poison ≡ pointer_to d = sym poison ∙ vj in absurd (cc))
    (λ aj.
    let si = h.each i d ai.target ((keeps a.func).rooted i i ri).0 vi ai.other_is in
    let sj = h.each j d aj.target ((keeps a.func).rooted j j rj).0 vj aj.other_is in
    same_alloca (sym si.seat ∙ sj.seat))
    (h.envs.rooted j j rj))
    (h.envs.rooted i i ri)

module _ (m : Module) (flags : Flags) (roots : Roots) (keeps : (func : ℕ)
    → KeepsSlots m (function_at m func) (flags func) (roots func)) (answers : List ℤ) (l : Ledger) (xs : List
    Instance) (depth : ℕ) (s t : World) (a b : Activation) (h : IsActivationBeside m flags roots l xs s.memory
    t.memory depth a b) (over : AreOver l.homes l.hides s t) (e : AreEntered m l s.memory t.memory) (ordinary :
    IsOrdinary (function_at m a.func) (place_in a)) where
  abbrev f : Function
  f = function_at m a.func

  abbrev here : Fetched
  here = fetch (function_at m a.func) a.block a.at

  abbrev c : Context
  c = record { code = m; answers = answers; rights = owner_rights; function = function_at m a.func }

  abbrev w : Work
  w = record { world = s; values = a.values }

  abbrev x : Work
  x = record { world = t; values = h.values }

  abbrev ps : List Place
  ps = places_at (roots a.func) a.values h.values (fetch (function_at m a.func) a.block a.at)

  flagged : (v alloca : ℕ) → roots a.func v ≡ Some alloca → IsTrue (flags a.func alloca)
  flagged v alloca root = ((keeps a.func).rooted v alloca root).0

  pub slot_of : (alloca : ℕ) (p : Place) → IsTrue (flags a.func alloca)
      → value_in a.values alloca ≡ pointer_to p.block → value_in h.values alloca ≡ pointer_to p.target
      → IsSlotBeside m l xs s.memory t.memory depth a alloca p.block p.target
  slot_of alloca p is source target = h.each alloca p.block p.target is source target

  used_here : HasNoSlot (fetch (function_at m a.func) a.block a.at) → (p : Place)
      → (i : IsPlaceOf (roots a.func) a.values h.values (fetch (function_at m a.func) a.block a.at) p)
      → IsUse (function_at m a.func) i.alloca (At (place_in a))
  used_here no_slot p i = read_used (function_at m a.func) (place_in a) i.name i.alloca ((keeps a.func).rooted i.name
      i.alloca i.root).1 no_slot i.is_read

  pub good : HasNoSlot (fetch (function_at m a.func) a.block a.at) → (p : Place)
      → IsPlaceOf (roots a.func) a.values h.values (fetch (function_at m a.func) a.block a.at) p
      → IsGoodPlace m l s.memory t.memory p
  good no_slot p i =
      let is = flagged i.name i.alloca i.root in
      let slot = slot_of i.alloca p is i.source i.target in
      record {
        seat = _;
        seated = slot.seat;
        tenant = slot.tenant;
        depth = _;
        owner = slot.owner;
        ready = slot.ready;
        stands = use_stands m flags roots l xs s.memory t.memory depth a b h (At (place_in a)) (at_place m flags roots
            l xs s.memory t.memory depth a b h ordinary) i.alloca p.block p.target
            ((keeps a.func).is_local i.alloca is).1 (used_here no_slot p i) slot;
      }

  -- two flagged allocas have two blocks
  pub one_alloca : (i j d : ℕ) → roots a.func i ≡ Some i → roots a.func j ≡ Some j
      → value_in a.values i ≡ pointer_to d → value_in a.values j ≡ pointer_to d → i ≡ j
  one_alloca = one_slot m flags roots keeps l xs s.memory t.memory depth a b h

  -- what comes of it
  pub record GoesBeside (v : Work) : Type 0 where
    pub other : Work
    pub is : action_of c x here ≡ Done other
    pub world : AreOver (used_ledger m l ps).homes (used_ledger m l ps).hides v.world other.world
    pub entered : AreEntered m (used_ledger m l ps) v.world.memory other.world.memory
    pub set : AreSet (stood l.homes ps) (given_at here) w x v other
    pub refilled : AreRefilled s.memory v.world.memory
    pub refilled_target : AreRefilled t.memory other.world.memory
    pub shown : KeepsShown (λ d. is_quiet m (l.seats d)) a.values v.values

  module _ (distance : HasDistance (record {
    code = m;
    answers = answers;
    rights = owner_rights;
    function = function_at m a.func;
  }) (record {
    code = m;
    answers = answers;
    rights = owner_rights;
    function = function_at m a.func;
  }) a.values h.values (fetch (function_at m a.func) a.block a.at)) (small : ComparesSmall m a.values (fetch (function_at
      m a.func) a.block a.at)) (no_slot :
      HasNoSlot (fetch (function_at m a.func) a.block a.at)) (bytes : HasBytes (fetch (function_at m a.func) a.block
      a.at)) where
    idem : AreRoots (roots a.func)
    idem = roots_of m (function_at m a.func) (flags a.func) (roots a.func) (keeps a.func)

    using : IsUsing l.homes l.hides (λ d. is_quiet m (l.seats d)) ps c w x here
    using = uses m l s.memory t.memory e c refl w x (roots a.func) here refl refl over idem h.envs one_alloca (good
        no_slot) distance small no_slot bytes

    goods : Each (IsGoodPlace m l s.memory t.memory) ps
    goods = good_places m l s.memory t.memory e c refl w x (roots a.func) here refl refl over idem h.envs one_alloca
        (good no_slot)

    within_stood : Each (λ (q : Place). q.block < length (stood l.homes ps)) ps
    within_stood = each_map _ _ ps (λ q (i : IsPlace l.homes l.hides s.memory t.memory q). subst (λ n. q.block < n)
        (sym (stood_length l.homes ps)) i.within) (all_places m l s.memory t.memory e ps goods)

    all_full : (spans : List Span) → Each (λ (z : Span). IsFull t.memory z.block) spans
    all_full [] = tt
    all_full (z ∷ spans) = (e.full z.block, all_full spans)

    full_on : (n : List MemoryBlock) → AreRefilled t.memory n → ((d : ℕ)
        → length (bytes_in (slice_get n d)) ≡ length (bytes_in (slice_get t.memory d))) → (d : ℕ) → IsFull n d
    full_on n r same d y at live =
        let z = refilled_from t.memory n d y r at in
        ap (λ o. length (bytes_in o)) (sym at) ∙ same d ∙ ap (λ o. length (bytes_in o)) z.1
        ∙ e.full d z.0 z.1 (ap (λ (q : MemoryBlock). is_live q.life) (sym z.2) ∙ live)
        ∙ ap (λ (q : MemoryBlock). q.size) (sym z.2)

    pub goes_beside : Each (IsShownOperand (λ d. is_quiet m (l.seats d)) c w) (spread_at here)
        → Each (IsShownOperand (λ d. nat_le (length s.memory) d) c w) (spread_at here) → (v : Work)
        → action_of c w here ≡ Done v → GoesBeside v
    goes_beside quiet there v is =
        let g = subst (λ z. GoesOver (stood l.homes ps) (shown_of l.hides ps) (given_at here) w x z (action_of c x
        here)) is (used_step l.homes l.hides (λ d. is_quiet m (l.seats d)) ps c w x here using refl) in
        let refilled : AreRefilled s.memory v.world.memory = subst (OnlyRefills s.memory) is (step_only c w here
        no_slot) in
        let refilled' : AreRefilled t.memory g.0.world.memory = subst (OnlyRefills t.memory) g.1 (step_only c x here
        no_slot) in
        let shown : AreShownBlocks (λ d. is_quiet m (l.seats d)) v.world.memory = (subst (IsShownAction (λ d. is_quiet
        m (l.seats d)) a.values) is (step_shown (λ d. is_quiet m (l.seats d)) c w e.shown here (λ no. absurd (no
        no_slot)) quiet)).0 in
        let future : AreShownBlocks (λ d. nat_le (length s.memory) d) v.world.memory = (subst (IsShownAction (λ d.
        nat_le (length s.memory) d) a.values) is (step_shown (λ d. nat_le (length s.memory) d) c w e.future here
        (λ no. absurd (no no_slot)) there)).0 in
        let st = fade (λ d. is_quiet m (l.seats d)) (shown_of l.hides ps) (stood l.homes ps) v.world.memory
        g.0.world.memory ps within_stood shown (record {
          memory = g.2.memory;
          nulls = g.2.nulls;
          bounds = g.2.bounds;
        }) in
        let left : LeavesBytes (writes c x here) t.memory (action_of c x here) = bytes_left c x here no_slot (all_full
        (writes c x here)) in
        let lengths : WritesOnly (writes c x here) t.memory g.0.world.memory = subst (LeavesBytes (writes c x here)
        t.memory) g.1 left in
        let full : (d : ℕ) → IsFull g.0.world.memory d = full_on g.0.world.memory refilled' lengths.lengths in
        record {
          other = g.0;
          is = g.1;
          world = record {
            memory = st.memory;
            nulls = st.nulls;
            bounds = st.bounds;
            events = g.2.events;
            answers = g.2.answers;
            allocs = g.2.allocs;
          };
          entered = used_entered m l s.memory v.world.memory t.memory g.0.world.memory ps e (all_places m l s.memory
              t.memory e ps goods) (all_settled m l s.memory t.memory e ps goods) (apart m l s.memory t.memory e c
              refl w x (roots a.func) here refl refl over idem h.envs one_alloca (good no_slot)) (all_theirs m l
              s.memory t.memory e ps goods) refilled refilled' shown (subst (λ n. AreShownBlocks (λ d. nat_le n d)
              v.world.memory) (sym (as_many s.memory v.world.memory refilled)) future) full;
          set = g.3;
          refilled = refilled;
          refilled_target = refilled';
          shown = (subst (IsShownAction (λ d. is_quiet m (l.seats d)) a.values) is (step_shown (λ d. is_quiet m
              (l.seats d)) c w e.shown here (λ no. absurd (no no_slot)) quiet)).1;
        }
