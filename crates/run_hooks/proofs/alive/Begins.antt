-- A begin leaves a state in which live slots may be alive: the slots of the ramp go to its instance.
use Rattle.std.proofs.Common.{◌≡◌, ◌<◌, inl, inr, ℕ, zero, suc, Bool, true, false, not, List, [], ◌∷◌, ◌++◌, length}
use Rattle.std.proofs.Common.{Option, Some, None, refl, sym, ap, ◌∙◌, subst, arith}
use Rattle.std.specs.List.{AllByRecursion}
use Rattle.std.specs.Prelude.{filter, if◌then◌else◌, slice_get, slice_set, ◌==◌}
use Rattle.pass_renewed_proof.specs.ir_model.Names.{function_at}
use Rattle.pass_renewed_proof.specs.ir_model.declared.module.Function.{Function}
use Rattle.pass_renewed_proof.specs.ir_model.declared.module.Module.{Module}
use Rattle.pass_renewed_proof.specs.ir_paths.Slots.{IsRampSlot}
use Rattle.pass_renewed_proof.specs.rule_windows.Sets.{RunsOut}
use Rattle.run_hooks.proofs.alive.Parts.{AllIn, all_append, all_both, all_map, all_passing}
use Rattle.run_hooks.specs.Away.{spot_of}
use Rattle.run_hooks.specs.alive.Alive.{Account, AreAliveAt, AreAliveIn, IsAliveIn, IsAliveInstance}
use Rattle.run_hooks.specs.alive.Alive.{IsAliveState, IsEnded, IsThere, KeepsAliveRules, account_of}
use Rattle.run_hooks.specs.alive.Slots.{Home, IsAliveSlot, IsMetSlot, IsSlotOf, IsTagged, Own, Ramp, Tag, Tags, home_of}
use Rattle.pass_renewed_proof.specs.run_source.Source.{begun, is_among, new_instance}
use Rattle.pass_renewed_proof.specs.run_source.State.{is_finished, own_facts}
use Rattle.pass_renewed_proof.specs.run_source.declared.state.Activation.{Activation}
use Rattle.pass_renewed_proof.specs.run_source.declared.state.Instance.{Instance}
use Rattle.pass_renewed_proof.specs.run_source.declared.state.State.{State}
use Rattle.pass_renewed_proof.specs.run_source_tables.Given.{Given}
use Rattle.pass_renewed_proof.specs.run_step.declared.world.Slot.{Slot}

-- ---- instances that there were, and the new one

data IsPushed (xs : List Instance) (y : Instance) (j : ℕ) (z : Instance) : Type 0 where
  Last : j ≡ length xs → z ≡ y → IsPushed xs y j z
  Earlier : (j < length xs) → slice_get xs j ≡ Some z → IsPushed xs y j z

pushed_get : (xs : List Instance) (x y : Instance) (j : ℕ) (z : Instance)
    → slice_get (slice_set (xs ++ x ∷ []) (length xs) y) j ≡ Some z → IsPushed xs y j z
pushed_get [] x y zero z e = Last refl (let same : y ≡ z = cc in sym same)
pushed_get [] x y (suc j) z e = absurd (cc)
pushed_get (w ∷ xs) x y zero z e = Earlier (omega arith) e
pushed_get (w ∷ xs) x y (suc j) z e = on (pushed_get xs x y j z e)
  where
    on : IsPushed xs y j z → IsPushed (w ∷ xs) y (suc j) z
    on (Last ej ez) = Last (ap suc ej) ez
    on (Earlier lt g) = Earlier (omega (arith, lt)) g

-- ---- tags of the ramp become the instance's

abbrev renamed : ℕ → ℕ → Home → Home
renamed depth i (Ramp d) = if d == depth then Own i else Ramp d
renamed depth i (Own j) = Own j

abbrev retagged : ℕ → ℕ → Tags → Tags
retagged depth i tags b = record { home = renamed depth i (tags b).home; alloca = (tags b).alloca }

own_renamed : (depth i : ℕ) → renamed depth i (Ramp depth) ≡ Own i
own_renamed depth i = let e : (depth == depth) ≡ true = grind arith in ap
    (λ (t : Bool). if t then Own i else Ramp depth) e

other_renamed : (depth i d : ℕ) → d < depth → renamed depth i (Ramp d) ≡ Ramp d
other_renamed depth i d lt = on (d == depth) refl
  where
    on : (t : Bool) → (d == depth) ≡ t → (if t then Own i else Ramp d) ≡ Ramp d
    on true e = let same : d ≡ depth = grind arith in absurd (omega (arith, lt, same))
    on false e = refl

home_renamed : (o : Option ℕ) (depth i d : ℕ) → d < depth → renamed depth i (home_of o d) ≡ home_of o d
home_renamed None depth i d lt = other_renamed depth i d lt
home_renamed (Some j) depth i d lt = refl

tag_renamed : (depth i : ℕ) (tags : Tags) (count : ℕ) (home other : Home) (v b : ℕ)
    → renamed depth i home ≡ other → IsTagged tags count home v b → IsTagged (retagged depth i tags) count other v b
tag_renamed depth i tags count home other v b e t = record {
  there = t.there;
  tag = ap (λ (x : Tag). record { home = renamed depth i x.home; alloca = x.alloca }) t.tag
      ∙ ap (λ (x : Home). record { home = x; alloca = v }) e;
}

slot_renamed : (depth i : ℕ) (tags : Tags) (count : ℕ) (home other : Home)
    (f : Function) (slot : Slot)
    → renamed depth i home ≡ other → IsSlotOf tags count home f slot
    → IsSlotOf (retagged depth i tags) count other f slot
slot_renamed depth i tags count home other f slot e o =
    record { made = o.made; tagged = tag_renamed depth i tags count home other slot.alloca slot.block e o.tagged }

module _ (m : Module) (counts : ℕ → ℕ → Bool) (g : Given) (s : State) (h : IsAliveState m counts s)
    (block start : ℕ) (none : s.top.instance ≡ None)
    (runs : RunsOut (function_at m s.top.func) (spot_of (function_at m s.top.func) s.top))
    (lower : AllIn (λ d a. (d < length s.below) × ((i : ℕ) → a.instance ≡ Some i → i < length s.instances)) s.below)
    (rules : KeepsAliveRules (function_at m s.top.func) (own_facts g s).ramp_slots) where
  abbrev ramp : List ℕ
  ramp = (own_facts g s).ramp_slots

  abbrev i : ℕ
  i = length s.instances

  abbrev depth : ℕ
  depth = length s.below

  abbrev x : Instance
  x = new_instance s.top.func block start

  abbrev y : Instance
  y = record x { slots = filter (λ slot. not (is_among (own_facts g s).ramp_slots slot)) s.top.slots ++ [] }

  abbrev tags : Tags
  tags = retagged depth i h.tags

  abbrev xs : List Instance
  xs = slice_set (s.instances ++ x ∷ []) (length s.instances) y

  abbrev l : Account
  l = record { tags = tags; memory = s.world.memory; instances = xs }

  at_top : renamed depth i (home_of s.top.instance (length s.below)) ≡ Own i
  at_top = ap (λ (o : Option ℕ). renamed depth i (home_of o (length s.below))) none ∙ own_renamed depth i

  abbrev Fits : Slot → Type 0
  Fits slot = IsSlotOf h.tags (length s.world.memory) (Ramp (length s.below)) (function_at m s.top.func) slot
      × IsAliveSlot (counts s.top.func) s.world.memory (function_at m s.top.func) s.top.values
      (spot_of (function_at m s.top.func) s.top) slot

  fits : AllByRecursion Fits s.top.slots
  fits = all_both _ _ Fits s.top.slots (λ slot own alive. (own, alive)) (h.stack.0.owned none) (h.stack.0.early none)

  -- of those that aren't the ramp's alone
  abbrev Shared : Slot → Type 0
  Shared slot = Fits slot × (IsRampSlot (function_at m s.top.func) slot.alloca → ⊥)

  shared : AllByRecursion Shared (filter (λ slot. not (is_among (own_facts g s).ramp_slots slot)) s.top.slots ++ [])
  shared = all_append Shared _ [] (all_passing (λ slot. not (is_among (own_facts g s).ramp_slots slot)) Fits Shared
      s.top.slots (λ slot e fit. (fit, no_ramp slot fit e)) fits) tt
    where
      no_ramp : (slot : Slot) → Fits slot → not (is_among (own_facts g s).ramp_slots slot) ≡ true
          → IsRampSlot (function_at m s.top.func) slot.alloca → ⊥
      no_ramp slot fit e is =
          let among : is_among (own_facts g s).ramp_slots slot ≡ true = rules.ramp slot.alloca fit.0.made is in
          let no : false ≡ true = sym (ap not among) ∙ e in absurd (cc)

  alive : AreAliveAt (counts s.top.func) s.world.memory (function_at m s.top.func) s.top.values
      (spot_of (function_at m s.top.func) s.top) y
  alive = record {
    runs = runs;
    slots = all_map Shared (IsAliveSlot (counts s.top.func) s.world.memory (function_at m s.top.func) s.top.values
        (spot_of (function_at m s.top.func) s.top)) y.slots (λ slot fit. fit.0.1) shared;
  }

  abbrev top : Activation
  top = record s.top { instance = Some i; slots = filter (is_among (own_facts g s).ramp_slots) s.top.slots ++ [] }

  top_alive : IsAliveIn m counts l (length s.below) top
  top_alive = record {
    tagged = λ v b made e. tag_renamed depth i h.tags (length s.world.memory)
        (home_of s.top.instance (length s.below)) (Own i) v b at_top (h.stack.0.tagged v b made e);
    past = h.stack.0.past;
    owned = λ e. absurd (cc);
    early = λ e. absurd (cc);
    met = λ e. absurd (cc);
    stays = λ e. absurd (cc);
    goes = λ j z ej ez on over. goes j z ej (pushed_get s.instances x y j z ez);
    ended = λ j z ej ez left fin. ended j z ej fin (pushed_get s.instances x y j z ez);
  }
    where
      number : (j : ℕ) → Some i ≡ Some j → length s.instances ≡ j
      number j e = cc

      goes : (j : ℕ) (z : Instance) → Some i ≡ Some j → IsPushed s.instances y j z
          → AreAliveAt (counts s.top.func) s.world.memory (function_at m s.top.func) s.top.values
          (spot_of (function_at m s.top.func) s.top) z
      goes j z ej (Last e w) = subst (AreAliveAt (counts s.top.func) s.world.memory (function_at m s.top.func)
          s.top.values (spot_of (function_at m s.top.func) s.top)) (sym w) alive
      goes j z ej (Earlier lt e) = let same = number j ej in absurd (omega (arith, lt, same))

      ended : (j : ℕ) (z : Instance) → Some i ≡ Some j → is_finished z.status ≡ true → IsPushed s.instances y j z
          → IsEnded (function_at m s.top.func) (spot_of (function_at m s.top.func) s.top)
      ended j z ej fin (Last e w) = let no : false ≡ true = sym (ap (λ (v : Instance). is_finished v.status) w) ∙ fin
          in absurd (cc)
      ended j z ej fin (Earlier lt e) = let same = number j ej in absurd (omega (arith, lt, same))

  abbrev IsLow : ℕ → Activation → Type 0
  IsLow d a = (d < length s.below) × ((i : ℕ) → a.instance ≡ Some i → i < length s.instances)

  low_alive : (d : ℕ) (a : Activation) → IsLow d a → IsAliveIn m counts (account_of h.tags s) d a
      → IsAliveIn m counts l d a
  low_alive d a low o = record {
    tagged = λ v b made e. tag_renamed depth i h.tags (length s.world.memory) (home_of a.instance d)
        (home_of a.instance d) v b (home_renamed a.instance depth i d low.0) (o.tagged v b made e);
    past = o.past;
    owned = λ e. all_map _ _ a.slots (λ slot own. slot_renamed depth i h.tags (length s.world.memory) (Ramp d) (Ramp d)
        (function_at m a.func) slot (other_renamed depth i d low.0) own) (o.owned e);
    early = o.early;
    met = o.met;
    stays = o.stays;
    goes = λ j z ej ez on over. o.goes j z ej (earlier j z ej (pushed_get s.instances x y j z ez)) on over;
    ended = λ j z ej ez left fin. o.ended j z ej (earlier j z ej (pushed_get s.instances x y j z ez)) left fin;
  }
    where
      earlier : (j : ℕ) (z : Instance) → a.instance ≡ Some j → IsPushed s.instances y j z
          → slice_get s.instances j ≡ Some z
      earlier j z ej (Last e w) = let lt = low.1 j ej in absurd (omega (arith, lt, e))
      earlier j z ej (Earlier lt e) = e

  below_alive : (as' : List Activation) → AllIn IsLow as' → AreAliveIn m counts (account_of h.tags s) as'
      → AreAliveIn m counts l as'
  below_alive [] low o = tt
  below_alive (a ∷ as') low o = (low_alive (length as') a low.0 o.0, o.1, below_alive as' low.1 o.2)

  pub begun_alive : IsAliveState m counts (begun g s block start)
  begun_alive = record {
    tags = tags;
    stack = (top_alive, h.stack.1, below_alive s.below lower h.stack.2);
    instances = λ j z e. on j z (pushed_get s.instances x y j z e);
  }
    where
      Met : Slot → Type 0
      Met = IsMetSlot (counts s.top.func) s.world.memory (function_at m s.top.func) (h.stack.0.met none).point

      met : AllByRecursion Met (filter (λ slot. not (is_among (own_facts g s).ramp_slots slot)) s.top.slots ++ [])
      met = all_append Met _ [] (all_passing (λ slot. not (is_among (own_facts g s).ramp_slots slot)) Met Met
          s.top.slots (λ slot e was. was) (h.stack.0.met none).each) tt

      is_own : IsAliveInstance m counts l (top ∷ s.below) i y
      is_own = record {
        owned = all_map Shared _ y.slots (λ slot fit. slot_renamed depth i h.tags (length s.world.memory)
            (Ramp (length s.below)) (Own i) (function_at m s.top.func) slot (own_renamed depth i) fit.0.0) shared;
        shared = all_map Shared _ y.slots (λ slot fit. fit.1) shared;
        over = λ e. absurd (cc);
        met = record { point = (h.stack.0.met none).point; each = met };
        asleep = λ u vs e. absurd (cc);
        running = λ e f. inl (refl, h.stack.0.stays none);
      }

      on : (j : ℕ) (z : Instance) → IsPushed s.instances y j z → IsAliveInstance m counts l (top ∷ s.below) j z
      on j z (Last e w) =
          subst (λ (n : ℕ). IsAliveInstance m counts l (top ∷ s.below) n z) (sym e)
          (subst (λ (v : Instance). IsAliveInstance m counts l (top ∷ s.below) i v) (sym w) is_own)
      on j z (Earlier lt e) =
          let o = h.instances j z e in
          record {
            owned = all_map _ _ z.slots (λ slot own. slot_renamed depth i h.tags (length s.world.memory) (Own j) (Own j)
                (function_at m z.coroutine) slot refl own) o.owned;
            shared = o.shared;
            over = o.over;
            met = o.met;
            asleep = λ u vs w.
                let r = o.asleep u vs w in
                record {
                  tagged = λ v b made k. tag_renamed depth i h.tags (length s.world.memory) (Own j) (Own j) v b refl
                      (r.tagged v b made k);
                  alive = record { runs = r.alive.runs; slots = r.alive.slots };
                };
            running = λ w f. stays (o.running w f);
          }
        where
          stays : IsThere j (s.top ∷ s.below) → IsThere j (top ∷ s.below)
          stays (inl t) = let no : None ≡ Some j = sym none ∙ t.0 in absurd (cc)
          stays (inr t) = inr t
