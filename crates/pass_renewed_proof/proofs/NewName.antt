-- The alloca of a slot that may be made anew gives its addresses, of a block that both have made.
use Rattle.std.proofs.Common.{◌≡◌, ℕ, zero, suc, ◌+◌, ◌<◌, ◌⊎◌, inl, inr, Bool, true, List, ◌∷◌}
use Rattle.std.proofs.Common.{length, Option, Some, None, refl, sym, ap, ◌∙◌, subst, ⊎_elim, arith}
use Rattle.std.proofs.lemmas.Bool.{cases_eq, false≢true}
use Rattle.std.specs.List.{Contains}
use Rattle.std.specs.Prelude.{IsTrue, slice_get}
use Rattle.pass_kept_proof.specs.ir_model.Names.{function_at}
use Rattle.pass_kept_proof.specs.ir_model.Ty.{Ty}
use Rattle.pass_kept_proof.specs.ir_model.declared.instr.Instr.{Instr}
use Rattle.pass_kept_proof.specs.ir_model.declared.module.Function.{Function}
use Rattle.pass_kept_proof.specs.ir_model.declared.module.Module.{Module}
use Rattle.run_laws.specs.memory.Pointers.{Home, IsValue}
use Rattle.pass_kept_proof.specs.run_memory.Pointers.{offset_of}
use Rattle.pass_kept_proof.specs.run_memory.declared.block.MemoryBlock.{MemoryBlock}
use Rattle.pass_kept_proof.specs.run_memory.declared.pointer.Value.{Value}
use Rattle.pass_kept_proof.specs.run_source.State.{settled, with_slots}
use Rattle.pass_kept_proof.specs.run_source.declared.state.Activation.{Activation}
use Rattle.pass_kept_proof.specs.run_source.declared.state.State.{State}
use Rattle.pass_kept_proof.specs.run_step.Step.{AtInstr, fetch}
use Rattle.pass_kept_proof.specs.run_step.Values.{Env, pointer_to, value_in, with_value}
use Rattle.pass_kept_proof.specs.run_step.declared.world.Slot.{Slot}
use Rattle.pass_renewed_proof.proofs.Carried.{others_on, same_carried, same_kept}
use Rattle.pass_renewed_proof.proofs.EnteredValues.{set_here, set_length}
use Rattle.pass_renewed_proof.proofs.Onward.{IsEdgeOf, activation_begun, begun_on, calm, slot_passed, slot_there}
use Rattle.pass_renewed_proof.proofs.Ordinary.{own_address, roots_of}
use Rattle.pass_renewed_proof.proofs.Passing.{edge_on, unended, unstarted}
use Rattle.pass_renewed_proof.proofs.Sets.{set_elsewhere}
use Rattle.pass_renewed_proof.specs.Beside.{AreSlots, Both, First, IsActivationBeside, IsAliveAt, IsBeside}
use Rattle.pass_renewed_proof.specs.Beside.{IsOther, IsOwn, IsPassed, IsSlotBeside, IsSlotOf, NoSlots, Second}
use Rattle.pass_renewed_proof.specs.Beside.{place_in}
use Rattle.pass_renewed_proof.specs.Ledger.{IsFresh, Ledger, LivesIn}
use Rattle.pass_renewed_proof.specs.Left.{behind}
use Rattle.pass_renewed_proof.specs.Making.{IsAllocaOfSlot}
use Rattle.pass_renewed_proof.specs.Places.{IsReady}
use Rattle.pass_renewed_proof.specs.Renewed.{Flags, Roots}
use Rattle.pass_renewed_proof.specs.SlotEnvs.{AreRoots, AreSlotEnvs, IsAddress}
use Rattle.pass_renewed_proof.specs.SlotRules.{KeepsSlots}
use Rattle.pass_renewed_proof.specs.Steps.{given_at}
use Rattle.pass_renewed_proof.specs.Way.{WasAlive}

-- ---- values with the address of a root, of which no name had an address

module _ (homes : List Home) (roots : ℕ → Option ℕ) (env other : Env) (a b c : ℕ) (idem : AreRoots roots)
    (envs : AreSlotEnvs homes roots env other) (root : roots a ≡ Some a) (named : a < length env)
    (none : (v : ℕ) → roots v ≡ Some a → value_in env v ≡ Value.Poison) where
  same_root : (i j : ℕ) → Some i ≡ Some j → i ≡ j
  same_root i j k = cc

  not_it : (v : ℕ) → roots v ≡ None → a ≡ v → ⊥
  not_it v e same = let k : None ≡ Some a = sym e ∙ ap roots (sym same) ∙ root in absurd (cc)

  abbrev Has : (z v : ℕ) → Type 0
  Has z v = (value_in (with_value env a (pointer_to b)) v ≡ Value.Poison) ⊎ IsAddress (value_in (with_value env a
      (pointer_to b)) z) (value_in (with_value other a (pointer_to c)) z) (value_in (with_value env a (pointer_to
      b)) v) (value_in (with_value other a (pointer_to c)) v)

  it_has : Has a a
  it_has =
      let room = envs.room in
      let here = set_here env a (pointer_to b) named in
      let there = set_here other a (pointer_to c) (omega arith) in
      inr (record {
        block = b;
        target = c;
        offset = offset_of 0;
        root_is = here;
        other_is = there;
        source = here;
        stands = there;
      })

  other_has : (v z : ℕ) → roots v ≡ Some z → (a ≡ v → ⊥) → (a ≡ z → ⊥) → Has z v
  other_has v z is ne ne_z = ⊎_elim
      (λ poison. inl (set_elsewhere env a v (pointer_to b) ne ∙ poison))
      (λ ad. inr (record {
        block = ad.block;
        target = ad.target;
        offset = ad.offset;
        root_is = set_elsewhere env a z (pointer_to b) ne_z ∙ ad.root_is;
        other_is = set_elsewhere other a z (pointer_to c) ne_z ∙ ad.other_is;
        source = set_elsewhere env a v (pointer_to b) ne ∙ ad.source;
        stands = set_elsewhere other a v (pointer_to c) ne ∙ ad.stands;
      }))
      (envs.rooted v z is)

  pub named_envs : AreSlotEnvs homes roots (with_value env a (pointer_to b)) (with_value other a (pointer_to c))
  named_envs = record {
    plain = λ v e. subst (λ z. IsValue homes z (value_in (with_value other a (pointer_to c)) v)) (sym (set_elsewhere
        env a v (pointer_to b) (not_it v e))) (subst (IsValue homes (value_in env v)) (sym (set_elsewhere other a v
        (pointer_to c) (not_it v e))) (envs.plain v e));
    rooted = λ v z is. ⊎_elim
        (λ same.
        let az : a ≡ z = same_root a z (sym root ∙ ap roots same ∙ is) in
        subst (λ (p : ℕ × ℕ). Has p.0 p.1) (λ k. (az k, same k)) it_has)
        (λ ne. ⊎_elim
        (λ az. inl (set_elsewhere env a v (pointer_to b) ne ∙ none v (is ∙ ap Some (sym az))))
        (λ ne_z. other_has v z is ne ne_z)
        (cases_eq a z))
        (cases_eq a v);
    room =
        let k = set_length env a (pointer_to b) in
        let j = set_length other a (pointer_to c) in
        let room = envs.room in
        omega arith;
  }

-- ---- the lists

module _ (l : Ledger) (S O P : Slot → Type 0) (flags : ℕ → Bool) where
  -- where the second's own ones are told by more
  pub own_on : (ss ts : List Slot) → ((slot : Slot) → Contains ts slot → O slot → P slot)
      → AreSlots l S O flags ss ts → AreSlots l S P flags ss ts
  own_on _ _ on NoSlots = NoSlots
  own_on _ _ on (Both al b d ss ts off home none rest) = Both al b d ss ts off home none (own_on ss ts (λ slot is. on
      slot (more is)) rest)
    where
      more : {slot : Slot} → Contains ts slot → Contains (record { alloca = al; block = d } ∷ ts) slot
      more (k, lt, e) = (suc k, omega arith, e)
  own_on _ ts on (First s ss _ is rest) = First s ss ts is (own_on ss ts on rest)
  own_on ss _ on (Second t _ ts is rest) = Second t ss ts (on t (0, omega arith, refl) is) (own_on ss ts (λ slot is. on
      slot (more is)) rest)
    where
      more : {slot : Slot} → Contains ts slot → Contains (t ∷ ts) slot
      more (k, lt, e) = (suc k, omega arith, e)

-- ---- the states

module _ (m : Module) (flags : Flags) (roots : Roots) (keeps : (func : ℕ)
    → KeepsSlots m (function_at m func) (flags func) (roots func)) (s t : State) (beside : IsBeside m flags roots s t)
    (a : ℕ) (ty : Ty) (align b c : ℕ) (is : IsAllocaOfSlot m flags s.top a ty align)
    (of_it : IsSlotOf s.instances s.top (record { alloca = a; block = b }))
    (seat : beside.ledger.seats b ≡ Some (record {
      func = s.top.func;
      alloca = a;
      depth = length s.below;
      instance = s.top.instance;
    })) (owner : beside.ledger.owners c ≡ Some (length s.below)) (tenant : beside.ledger.tenants c ≡ Some b)
    (ready : (x : MemoryBlock) → slice_get s.world.memory b ≡ Some x → IsReady t.world.memory c x)
    (fresh : IsFresh beside.ledger s.world.memory b) (alive : LivesIn s.world.memory b
    → IsAliveAt s.top (function_at m s.top.func) a (behind (place_in s.top))) (was_alive : s.top.has_left ≡ true
    → LivesIn s.world.memory b → WasAlive (function_at m s.top.func) a (behind (place_in s.top))) where
  abbrev l : Ledger
  l = beside.ledger

  abbrev f : Function
  f = function_at m s.top.func

  abbrev h : IsActivationBeside m flags roots beside.ledger s.instances s.world.memory t.world.memory (length s.below)
      s.top t.top
  h = beside.top

  abbrev i : Instr
  i = Instr.Alloca a ty align

  root : roots s.top.func a ≡ Some a
  root = (keeps s.top.func).addresses a a is.flagged (own_address f a)

  -- it stands in the entry block, and nowhere else
  alone : (block k : ℕ) (ty' : Ty) (align' : ℕ) → fetch f block k ≡ AtInstr (Instr.Alloca a ty' align')
      → (block ≡ 0) × (k ≡ ((keeps s.top.func).made a is.flagged).at)
  alone block k ty' align' here = ((keeps s.top.func).made a is.flagged).alone block k (ap given_at here)

  at_entry : s.top.block ≡ 0
  at_entry = (alone s.top.block s.top.at ty align is.here).0

  here_first : fetch (function_at m s.top.func) 0 s.top.at ≡ AtInstr (Instr.Alloca a ty align)
  here_first = ap (λ n. fetch f n s.top.at) (sym at_entry) ∙ is.here

  not_passed : (al : ℕ) → al ≡ a → IsPassed (function_at m s.top.func) al (place_in s.top) → ⊥
  not_passed al same passed =
      let lt = passed s.top.at ty align (here_first ∙ ap (λ n. AtInstr (Instr.Alloca n ty align)) (sym same)) at_entry in
      absurd (omega arith)

  no_value : value_in s.top.values a ≡ Value.Poison
  no_value = ⊎_elim
      (λ poison. poison)
      (λ ad. absurd (not_passed a refl (h.each a ad.block ad.target is.flagged ad.root_is ad.other_is).passed))
      (h.envs.rooted a a root)

  no_address : (v : ℕ) → roots s.top.func v ≡ Some a → value_in s.top.values v ≡ Value.Poison
  no_address v e = ⊎_elim
      (λ poison. poison)
      (λ ad. let k : Value.Poison ≡ pointer_to ad.block = sym no_value ∙ ad.root_is in absurd (cc))
      (h.envs.rooted v a e)

  idem : AreRoots (roots s.top.func)
  idem = roots_of m f (flags s.top.func) (roots s.top.func) (keeps s.top.func)

  abbrev vs : Env
  vs = with_value s.top.values a (pointer_to b)

  abbrev ws : Env
  ws = with_value beside.top.values a (pointer_to c)

  envs : AreSlotEnvs beside.ledger.homes (roots s.top.func) (with_value s.top.values a (pointer_to b)) (with_value
      beside.top.values a (pointer_to c))
  envs = named_envs l.homes (roots s.top.func) s.top.values h.values a b c idem h.envs root is.named no_address

  source_here : value_in (with_value s.top.values a (pointer_to b)) a ≡ pointer_to b
  source_here = set_here s.top.values a (pointer_to b) is.named

  target_here : value_in (with_value beside.top.values a (pointer_to c)) a ≡ pointer_to c
  target_here = let room = h.envs.room in let lt = is.named in set_here h.values a (pointer_to c) (omega arith)

  onward : IsEdgeOf (function_at m s.top.func) s.top (behind (place_in s.top))
  onward = edge_on m flags roots l s.instances s.world.memory t.world.memory (length s.below) s.top t.top h (calm
      f (place_in s.top) is.place) i
      is.here

  abbrev there : Activation
  there = record s.top { block = s.top.block; at = s.top.at + 1; values = with_value s.top.values a (pointer_to b) }

  passed_it : (al : ℕ) → al ≡ a → IsPassed (function_at m s.top.func) al (behind (place_in s.top))
  passed_it al same k ty' align' here first =
      let mine = alone 0 k ty' align' (here ∙ ap (λ n. AtInstr (Instr.Alloca n ty' align')) same) in
      let this = alone s.top.block s.top.at ty align is.here in
      less k s.top.at (mine.1 ∙ sym this.1)
    where
      less : (n j : ℕ) → n ≡ j → n < j + 1
      less n j e = omega arith

  slot_now : IsSlotBeside m beside.ledger s.instances s.world.memory t.world.memory (length s.below) (record s.top {
    block = s.top.block;
    at = s.top.at + 1;
    values = with_value s.top.values a (pointer_to b);
  }) a b c
  slot_now = record {
    slot = slot_there m l l s.instances s.world.memory s.world.memory t.world.memory t.world.memory (same_carried l
        s.world.memory t.world.memory) (length s.below) s.top (behind (place_in s.top)) vs onward _ of_it;
    passed = passed_it a refl;
    ramp = length s.below;
    seat = seat;
    depth_is = λ first. refl;
    owner = owner;
    tenant = tenant;
    ready = ready;
    first = λ first goes. inl fresh;
    resumed = λ resumed goes. inl (inl fresh);
    told_first = λ first goes. inl fresh;
    told = λ resumed goes. inl fresh;
    alive = λ goes live. alive_there (alive live);
    gone = λ left live seen at. absurd (false≢true (sym fresh.unseen ∙ seen));
    away = λ first left escaped away live. was_alive left live;
  }
    where
      alive_there : IsAliveAt s.top f a (behind (place_in s.top)) → IsAliveAt there f a (behind (place_in s.top))
      alive_there (inl k) = inl k
      alive_there (inr k) = inr k

  slots_now : (al d e : ℕ) → IsTrue (flags s.top.func al) → value_in (with_value s.top.values a (pointer_to b)) al ≡
      pointer_to d → value_in (with_value beside.top.values a (pointer_to c)) al ≡ pointer_to e
      → IsSlotBeside m beside.ledger s.instances s.world.memory t.world.memory (length s.below) (record s.top {
        block = s.top.block;
        at = s.top.at + 1;
        values = with_value s.top.values a (pointer_to b);
      }) al d e
  slots_now al d e flagged is_d is_e = ⊎_elim
      (λ same.
      let bd : b ≡ d = same_start b d (sym source_here ∙ ap (value_in vs) same ∙ is_d) in
      let ce : c ≡ e = same_start c e (sym target_here ∙ ap (value_in ws) same ∙ is_e) in
      subst (λ (z : ℕ × (ℕ × ℕ)). IsSlotBeside m l s.instances s.world.memory t.world.memory (length s.below) there z.0
      z.1.0 z.1.1) (λ j. (same j, (bd j, ce j))) slot_now)
      (λ ne.
      let o = h.each al d e flagged (sym (set_elsewhere s.top.values a al (pointer_to b) ne) ∙ is_d) (sym (set_elsewhere
      h.values a al (pointer_to c) ne) ∙ is_e) in
      slot_passed m l l s.instances s.world.memory s.world.memory t.world.memory t.world.memory (same_carried l
      s.world.memory t.world.memory) (length s.below) s.top (behind (place_in s.top)) vs onward al d e (unstarted f
      (place_in s.top) i is.here refl al) (λ live. unended f (place_in s.top) i is.here refl al) (same_kept l
      s.world.memory d) o)
      (cases_eq a al)
    where
      same_start : (x y : ℕ) → pointer_to x ≡ pointer_to y → x ≡ y
      same_start x y k = cc

  -- the others have what they had
  own_still : (slot : Slot) → Contains beside.top.slots slot
      → IsOwn beside.ledger (flags s.top.func) (length s.below) s.top.values beside.top.values slot
      → IsOwn beside.ledger (flags s.top.func) (length s.below) (with_value s.top.values a (pointer_to b)) (with_value
      beside.top.values a (pointer_to c)) slot
  own_still slot is_in o =
      let ne : a ≡ slot.alloca → ⊥ = λ same. not_passed slot.alloca (sym same) (h.made slot is_in o.flagged) in
      record {
        flagged = o.flagged;
        owner = o.owner;
        address = set_elsewhere h.values a slot.alloca (pointer_to c) ne ∙ o.address;
        tenant = λ d at. set_elsewhere s.top.values a slot.alloca (pointer_to b) ne ∙ o.tenant d at;
      }

  own_new : IsOwn beside.ledger (flags s.top.func) (length s.below) (with_value s.top.values a (pointer_to b))
      (with_value beside.top.values a (pointer_to c)) (record { alloca = a; block = c })
  own_new = record {
    flagged = is.flagged;
    owner = owner;
    address = target_here;
    tenant = λ d at. source_here ∙ ap pointer_to (same_some b d (sym tenant ∙ at));
  }
    where
      same_some : (x y : ℕ) → Some x ≡ Some y → x ≡ y
      same_some x y k = cc

  made_now : (slot : Slot) → Contains (record { alloca = a; block = c } ∷ beside.top.slots) slot
      → IsTrue (flags s.top.func slot.alloca) → IsPassed (function_at m s.top.func) slot.alloca (behind (place_in
      s.top))
  made_now slot (zero, lt, e) flagged = passed_it slot.alloca (ap (λ (z : Slot). z.alloca) (sym e))
  made_now slot (suc n, lt, e) flagged = onward.passed slot.alloca (h.made slot (n, omega arith, e) flagged)

  not_other : (v : ℕ) → IsOther (function_at m s.top.func) (flags s.top.func) (roots s.top.func) v → a ≡ v → ⊥
  not_other v other same = false≢true (sym other.off ∙ ap (flags s.top.func) (sym same) ∙ is.flagged)

  top_now : IsActivationBeside m flags roots beside.ledger s.instances s.world.memory t.world.memory (length s.below)
      (record s.top { at = s.top.at + 1; values = with_value s.top.values a (pointer_to b) }) (record t.top {
        at = t.top.at + 1;
        values = with_value beside.top.values a (pointer_to c);
        slots = record { alloca = a; block = c } ∷ beside.top.slots;
      })
  top_now = activation_begun m l l s.instances s.world.memory s.world.memory t.world.memory t.world.memory
      (same_carried l s.world.memory t.world.memory) (length s.below) s.top (behind (place_in s.top)) vs onward flags
      roots t.top h (begun_on m l l s.instances s.world.memory s.world.memory t.world.memory t.world.memory (same_carried l
      s.world.memory t.world.memory) (length s.below) s.top (behind (place_in s.top)) vs onward flags roots t.top h
      is.place.no_close) (record t.top {
        at = t.top.at + 1;
        values = ws;
        slots = record { alloca = a; block = c } ∷ h.slots;
      }) ws (record { alloca = a; block = c } ∷ h.slots) (ap (λ (z : Activation). record z {
        at = z.at + 1;
        values = ws;
        slots = record { alloca = a; block = c } ∷ h.slots;
      }) h.is) envs
      (Second (record { alloca = a; block = c }) s.top.slots h.slots own_new (own_on l _ _ _ (flags s.top.func)
      s.top.slots h.slots own_still h.listed)) (others_on l l s.world.memory s.world.memory t.world.memory
      t.world.memory (same_carried l s.world.memory t.world.memory) f (flags s.top.func) (roots s.top.func)
      s.top.values h.values vs ws h.envs (λ v other. (
        set_elsewhere s.top.values a v (pointer_to b) (not_other v other),
        set_elsewhere h.values a v (pointer_to c) (not_other v other),
      )) h.others) slots_now made_now

  pub named_beside : IsBeside m flags roots (settled s (record {
    world = s.world;
    values = with_value s.top.values a (pointer_to b);
  })) (with_slots (settled t (record {
    world = t.world;
    values = with_value t.top.values a (pointer_to c);
  })) (record { alloca = a; block = c } ∷ t.top.slots))
  named_beside = subst (λ (z : Activation). IsBeside m flags roots (settled s (record {
    world = s.world;
    values = vs;
  })) (with_slots (settled t (record { world = t.world; values = with_value z.values a (pointer_to c) })) (record {
    alloca = a;
    block = c;
  } ∷ z.slots))) (sym h.is) (record {
    ledger = l;
    outcome = beside.outcome;
    world = beside.world;
    entered = beside.entered;
    instances = beside.instances;
    top = top_now;
    below = beside.below;
  })
