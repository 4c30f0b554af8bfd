-- A getelementptr of an address in a slot gives such an address in both runs, and leads to states beside each other.
use Rattle.std.proofs.Common.{◌≡◌, ℕ, ◌+◌, ◌<◌, ◌⊎◌, inl, inr, Bool, true, false, List, length, Option, Some, None}
use Rattle.std.proofs.Common.{refl, sym, ap, ◌∙◌, subst, ⊎_elim, arith, if◌then◌else◌, ◌&&◌, ◌==◌}
use Rattle.std.proofs.lemmas.Bool.{cases_eq, cases_lt}
use Rattle.std.specs.Prelude.{IsTrue, slice_get, not, ℤ}
use Rattle.pass_kept_proof.specs.ir_model.Names.{function_at}
use Rattle.pass_kept_proof.specs.ir_model.Ty.{Ty}
use Rattle.pass_kept_proof.specs.ir_model.declared.instr.Instr.{Instr}
use Rattle.pass_kept_proof.specs.ir_model.declared.module.Function.{Function}
use Rattle.pass_kept_proof.specs.ir_model.declared.module.Module.{Module}
use Rattle.pass_kept_proof.specs.ir_model.declared.operand.Arg.{Arg}
use Rattle.pass_kept_proof.specs.ir_model.declared.operand.Operand.{Operand}
use Rattle.pass_kept_proof.specs.ir_paths.declared.point.Point.{Point}
use Rattle.pass_kept_proof.proofs.Same.{eq_itself, or_left}
use Rattle.pass_kept_proof.specs.Needed.{reads_at}
use Rattle.run_laws.specs.embedded.Related.{HasBytes, HasDistance, HasNoSlot, IsSameDistance}
use Rattle.run_laws.specs.memory.Pointers.{Home, IsValue}
use Rattle.pass_kept_proof.specs.run_memory.Memory.{owner_rights}
use Rattle.pass_kept_proof.specs.run_memory.Pointers.{moved}
use Rattle.pass_kept_proof.specs.run_memory.declared.block.MemoryBlock.{MemoryBlock}
use Rattle.pass_kept_proof.specs.run_memory.declared.pointer.Offset.{Offset}
use Rattle.pass_kept_proof.specs.run_memory.declared.pointer.Pointer.{Pointer}
use Rattle.pass_kept_proof.specs.run_memory.declared.pointer.Value.{Value}
use Rattle.pass_kept_proof.specs.run_source.declared.state.Activation.{Activation}
use Rattle.pass_kept_proof.specs.run_source.State.{settled, work_of}
use Rattle.pass_kept_proof.specs.run_source.declared.state.Instance.{Instance}
use Rattle.pass_kept_proof.specs.run_source.declared.state.State.{State}
use Rattle.pass_kept_proof.specs.run_step.Step.{AtInstr, Context, Fetched, Work, fetch}
use Rattle.pass_kept_proof.specs.run_step.Values.{Env, distance, element, indices_of, is_in_bounds, pointer_to, value_in, with_value}
use Rattle.pass_kept_proof.specs.run_step.declared.world.World.{World}
use Rattle.pass_renewed_proof.proofs.Ahead.{next_edge}
use Rattle.pass_renewed_proof.proofs.Carried.{others_on, same_carried, same_kept}
use Rattle.pass_renewed_proof.proofs.Chosen.{beyond, placed, target_of}
use Rattle.pass_renewed_proof.proofs.EnteredValues.{set_here, set_length}
use Rattle.pass_renewed_proof.proofs.Onward.{IsEdgeOf, activation_there, calm, left_next, no_end_here}
use Rattle.pass_renewed_proof.proofs.Onward.{no_start_here, passed_next, slot_passed}
use Rattle.pass_renewed_proof.proofs.Ordinary.{good, one_alloca, own_address, roots_of}
use Rattle.pass_renewed_proof.proofs.Ready.{part_placed}
use Rattle.pass_renewed_proof.proofs.Sets.{set_elsewhere}
use Rattle.pass_renewed_proof.proofs.Stands.{end_at_first}
use Rattle.pass_renewed_proof.proofs.Using.{IsGoodPlace, distances, uses}
use Rattle.pass_renewed_proof.specs.Beside.{IsActivationBeside, IsBeside, IsOther, place_in}
use Rattle.pass_renewed_proof.specs.Chosen.{IsPlaceOf, places_at}
use Rattle.pass_renewed_proof.specs.Ledger.{AreEntered, Ledger, is_quiet}
use Rattle.pass_renewed_proof.specs.Left.{behind}
use Rattle.pass_renewed_proof.specs.Ordinary.{IsOrdinary, IsPart, with_part}
use Rattle.pass_renewed_proof.specs.Ready.{IsUsing, Place}
use Rattle.pass_renewed_proof.specs.Renewed.{Flags, Roots}
use Rattle.pass_renewed_proof.specs.SlotEnvs.{AreRoots, AreSlotEnvs, IsAddress}
use Rattle.pass_renewed_proof.specs.SlotRules.{KeepsSlots}
use Rattle.pass_renewed_proof.specs.Small.{ComparesSmall}
use Rattle.pass_renewed_proof.specs.Steps.{AreOver, given_at}

-- ---- an element lies in the block of its base

if_block : (u : Bool) (a b : ℕ) (p q : Offset)
    → (if u then Value.Poison else Value.Ptr (Pointer.At a p)) ≡ Value.Ptr (Pointer.At b q) → b ≡ a
if_block true a b p q e = absurd (cc)
if_block false a b p q e = cc

element_block : (memory : List MemoryBlock) (inbounds : Bool) (a b : ℕ) (o q : Offset) (d : Option ℕ)
    → element memory inbounds (Value.Ptr (Pointer.At a o)) d ≡ Value.Ptr (Pointer.At b q) → b ≡ a
element_block memory inbounds a b o q None e = absurd (cc)
element_block memory inbounds a b o q (Some d) e = if_block (inbounds && not (is_in_bounds (slice_get memory a) (moved
    o d))) a b (moved o d) q e

element_poison : (memory : List MemoryBlock) (inbounds : Bool) (d : Option ℕ)
    → element memory inbounds Value.Poison d ≡ Value.Poison
element_poison memory inbounds None = refl
element_poison memory inbounds (Some d) = refl

-- ---- values with one address more

module _ (homes : List Home) (roots : ℕ → Option ℕ) (env other : Env) (name slot : ℕ) (p q : Value)
    (idem : AreRoots roots) (envs : AreSlotEnvs homes roots env other) (root : roots name ≡ Some slot)
    (not_root : (z : ℕ) → roots z ≡ Some z → name ≡ z → ⊥) where
  abbrev Has : (z v : ℕ) → Env → Env → Type 0
  Has z v es os = (value_in es v ≡ Value.Poison) ⊎ IsAddress (value_in es z) (value_in os z) (value_in es v) (value_in
      os v)

  there_has : (v z : ℕ) → roots v ≡ Some z → (name ≡ v → ⊥) → Has z v (with_value env name p) (with_value other name q)
  there_has v z is ne =
      let zs = idem v z is in
      let source = set_elsewhere env name z p (not_root z zs) in
      let target = set_elsewhere other name z q (not_root z zs) in
      ⊎_elim
      (λ poison. inl (set_elsewhere env name v p ne ∙ poison))
      (λ ad. inr (record {
        block = ad.block;
        target = ad.target;
        offset = ad.offset;
        root_is = source ∙ ad.root_is;
        other_is = target ∙ ad.other_is;
        source = set_elsewhere env name v p ne ∙ ad.source;
        stands = set_elsewhere other name v q ne ∙ ad.stands;
      }))
      (envs.rooted v z is)

  here_has : (z : ℕ) → roots z ≡ Some z → slot ≡ z → name < length env
      → (p ≡ Value.Poison) ⊎ IsAddress (value_in env slot) (value_in other slot) p q
      → Has z name (with_value env name p) (with_value other name q)
  here_has z zs same lt new =
      let room = envs.room in
      let now = set_here env name p lt in
      let behind_it = set_here other name q (omega arith) in
      let source = set_elsewhere env name z p (not_root z zs) in
      let target = set_elsewhere other name z q (not_root z zs) in
      ⊎_elim
      (λ poison. inl (now ∙ poison))
      (λ ad. inr (record {
        block = ad.block;
        target = ad.target;
        offset = ad.offset;
        root_is = source ∙ ap (value_in env) (sym same) ∙ ad.root_is;
        other_is = target ∙ ap (value_in other) (sym same) ∙ ad.other_is;
        source = now ∙ ad.source;
        stands = behind_it ∙ ad.stands;
      }))
      new

  same_root : (i j : ℕ) → Some i ≡ Some j → i ≡ j
  same_root i j k = cc

  unrooted : (v : ℕ) → roots v ≡ None → name ≡ v → ⊥
  unrooted v none same = let k : None ≡ Some slot = sym none ∙ ap roots (sym same) ∙ root in absurd (cc)

  name_has : (z : ℕ) → roots name ≡ Some z
      → (p ≡ Value.Poison) ⊎ IsAddress (value_in env slot) (value_in other slot) p q
      → Has z name (with_value env name p) (with_value other name q)
  name_has z is new = ⊎_elim
      (λ lt. here_has z (idem name z is) (same_root slot z (sym root ∙ is)) lt new)
      (λ le. let k = set_length env name p in inl (beyond (with_value env name p) name (omega arith)))
      (cases_lt name (length env))

  plain_has : (v : ℕ) → (name ≡ v → ⊥) → IsValue homes (value_in env v) (value_in other v)
      → IsValue homes (value_in (with_value env name p) v) (value_in (with_value other name q) v)
  plain_has v ne stands =
      subst (λ z. IsValue homes z (value_in (with_value other name q) v)) (sym (set_elsewhere env name v p ne))
      (subst (IsValue homes (value_in env v)) (sym (set_elsewhere other name v q ne)) stands)

  with_part_envs : (p ≡ Value.Poison) ⊎ IsAddress (value_in env slot) (value_in other slot) p q
      → AreSlotEnvs homes roots (with_value env name p) (with_value other name q)
  with_part_envs new = record {
    plain = λ v none. plain_has v (unrooted v none) (envs.plain v none);
    rooted = λ v z is. ⊎_elim
        (λ same. subst (λ n. roots n ≡ Some z → Has z n (with_value env name p) (with_value other name q)) same
        (λ k. name_has z k new) is)
        (λ ne. there_has v z is ne)
        (cases_eq name v);
    room =
        let k = set_length env name p in
        let j = set_length other name q in
        let room = envs.room in
        omega arith;
  }

module _ (m : Module) (flags : Flags) (roots : Roots) (keeps : (func : ℕ)
    → KeepsSlots m (function_at m func) (flags func) (roots func)) (answers : List ℤ) (l : Ledger) (xs : List
    Instance) (depth : ℕ) (s t : World) (a b : Activation) (h : IsActivationBeside m flags roots l xs s.memory
    t.memory depth a b) (over : AreOver l.homes l.hides s t) (e : AreEntered m l s.memory t.memory) (ordinary :
    IsOrdinary (function_at m a.func) (place_in a))
    (name r slot : ℕ) (inbounds : Bool) (ty : Ty) (indices : List Arg) (here_is : fetch (function_at m a.func) a.block
    a.at ≡ AtInstr (Instr.Gep name inbounds ty (Operand.Local r) indices)) (root : roots a.func name ≡ Some slot)
    (base : roots a.func r ≡ Some slot) where
  abbrev f : Function
  f = function_at m a.func

  abbrev here : Fetched
  here = fetch (function_at m a.func) a.block a.at

  abbrev c : Context
  c = record { code = m; answers = answers; rights = owner_rights; function = function_at m a.func }

  abbrev w : Work
  w = record { world = s; values = a.values }

  abbrev x : Work
  x = record { world = t; values = h.values }

  abbrev ps : List Place
  ps = places_at (roots a.func) a.values h.values here

  -- what is given in both
  abbrev pub part : Value
  part = element s.memory inbounds (value_in a.values r) (distance m ty (indices_of m a.values indices))

  abbrev pub other_part : Value
  other_part = element t.memory inbounds (value_in h.values r) (distance m ty (indices_of m h.values indices))

  none : HasNoSlot here
  none = subst HasNoSlot (sym here_is) tt

  one : (i j d : ℕ) → roots a.func i ≡ Some i → roots a.func j ≡ Some j → value_in a.values i ≡ pointer_to d
      → value_in a.values j ≡ pointer_to d → i ≡ j
  one = one_alloca m flags roots keeps answers l xs depth s t a b h over e ordinary

  good_here : (p : Place) → IsPlaceOf (roots a.func) a.values h.values here p → IsGoodPlace m l s.memory t.memory p
  good_here = good m flags roots keeps answers l xs depth s t a b h over e ordinary none

  idem : AreRoots (roots a.func)
  idem = roots_of m f (flags a.func) (roots a.func) (keeps a.func)

  distance_here : HasDistance c c a.values h.values here
  distance_here = distances m l s.memory t.memory e c refl w x (roots a.func) here refl refl over idem h.envs one
      good_here (λ n i y o is e. (keeps a.func).indices n a.block a.at i y o is e)

  same_distance : IsSameDistance (distance m ty (indices_of m a.values indices)) (distance m ty (indices_of m h.values
      indices))
  same_distance = subst (HasDistance c c a.values h.values) here_is distance_here

  using : IsUsing l.homes l.hides (λ d. is_quiet m (l.seats d)) ps c w x here
  using = uses m l s.memory t.memory e c refl w x (roots a.func) here refl refl over idem h.envs one good_here
      distance_here (subst (ComparesSmall m a.values) (sym here_is) tt) none (subst HasBytes (sym here_is) tt)

  -- an alloca's name isn't given here
  pub not_root : (z : ℕ) → roots a.func z ≡ Some z → name ≡ z → ⊥
  not_root z is same =
      let made = (keeps a.func).made z ((keeps a.func).rooted z z is).0 in
      let given : given_at here ≡ Some z = ap given_at here_is ∙ ap Some same in
      let at = made.alone a.block a.at given in
      let both : AtInstr (Instr.Gep name inbounds ty (Operand.Local r) indices) ≡ AtInstr (Instr.Alloca z made.ty
      made.align) = sym here_is ∙ (λ i. fetch f (at.0 i) (at.1 i)) ∙ made.stands in
      absurd (cc)

  new_part : value_in a.values r ≡ Value.Poison ⊎ IsAddress (value_in a.values slot) (value_in h.values slot)
      (value_in a.values r) (value_in h.values r)
      → (part ≡ Value.Poison) ⊎ IsAddress (value_in a.values slot) (value_in h.values slot) part other_part
  new_part (inl poison) = inl (ap (λ v. element s.memory inbounds v (distance m ty (indices_of m a.values indices)))
      poison ∙ element_poison s.memory inbounds (distance m ty (indices_of m a.values indices)))
  new_part (inr ad) =
      let is_read : IsTrue (reads_at r here) = subst (λ z. IsTrue (reads_at r z)) (sym here_is) (or_left (r == r) _
      (eq_itself r)) in
      let at = placed l.homes (roots a.func) a.values h.values here idem h.envs one r slot is_read base ad in
      ⊎_elim (λ p. inl p)
      (λ p.
      let same : p.place.block ≡ ad.block = element_block s.memory inbounds ad.block p.place.block ad.offset p.offset
      (distance m ty (indices_of m a.values indices)) (ap (λ v. element s.memory inbounds v (distance m ty
      (indices_of m a.values indices))) (sym ad.source) ∙ p.source) in
      let target : p.place.target ≡ ad.target = target_of l.homes (roots a.func) a.values h.values here idem h.envs
      one p.place p.listed slot ad.block ad.target (idem name slot root) same ad.root_is ad.other_is in
      inr (record {
        block = ad.block;
        target = ad.target;
        offset = p.offset;
        root_is = ad.root_is;
        other_is = ad.other_is;
        source = p.source ∙ ap (λ n. Value.Ptr (Pointer.At n p.offset)) same;
        stands = p.target ∙ ap (λ n. Value.Ptr (Pointer.At n (moved p.offset 0))) target;
      }))
      (part_placed l.homes l.hides (λ d. is_quiet m (l.seats d)) ps c w x here using inbounds (value_in a.values r)
      (value_in h.values r) _ _ at same_distance)

  pub part_envs : AreSlotEnvs l.homes (roots a.func) (with_value a.values name part) (with_value h.values name
      other_part)
  part_envs = with_part_envs l.homes (roots a.func) a.values h.values name slot part other_part idem h.envs root
      not_root
      (new_part (h.envs.rooted r slot base))

-- ---- the states

module _ (m : Module) (flags : Flags) (roots : Roots) (keeps : (func : ℕ)
    → KeepsSlots m (function_at m func) (flags func) (roots func)) (answers : List ℤ) (s t : State) (beside : IsBeside
    m flags roots s t) (name : ℕ) (inbounds : Bool) (ty : Ty) (r : ℕ) (indices : List Arg) (is : IsPart m roots s.top
    name inbounds ty r indices) where
  abbrev l : Ledger
  l = beside.ledger

  abbrev h : IsActivationBeside m flags roots beside.ledger s.instances s.world.memory t.world.memory (length s.below)
      s.top t.top
  h = beside.top

  abbrev func : Function
  func = function_at m s.top.func

  abbrev i : Instr
  i = Instr.Gep name inbounds ty (Operand.Local r) indices

  abbrev first : Value
  first = part m flags roots keeps answers l s.instances (length s.below) s.world t.world s.top t.top h beside.world
      beside.entered is.place name r is.slot inbounds ty indices is.here is.root is.of_slot

  abbrev second : Value
  second = other_part m flags roots keeps answers l s.instances (length s.below) s.world t.world s.top t.top h
      beside.world beside.entered is.place name r is.slot inbounds ty indices is.here is.root is.of_slot

  abbrev next : Point
  next = behind (place_in s.top)

  onward : IsEdgeOf (function_at m s.top.func) s.top next
  onward = record {
    edge = next_edge func s.top.block s.top.at i is.here;
    passed = λ slot. passed_next func slot (place_in s.top);
    not_last = λ resumed last. is.place.no_end last (end_at_first func (place_in s.top) (h.came resumed) last);
    left = λ left z call by. left_next func z (place_in s.top) i is.here (calm func (place_in s.top) is.place) call by;
  }

  unset : (slot : ℕ) → IsTrue (flags s.top.func slot) → name ≡ slot → ⊥
  unset slot flagged = not_root m flags roots keeps answers l s.instances (length s.below) s.world t.world s.top t.top
      h beside.world beside.entered is.place name r is.slot inbounds ty indices is.here is.root is.of_slot slot
      ((keeps s.top.func).addresses slot slot flagged (own_address func slot))

  not_other : (v : ℕ) → IsOther func (flags s.top.func) (roots s.top.func) v → name ≡ v → ⊥
  not_other v other same =
      let c : None ≡ Some is.slot = sym other.no_part ∙ ap (roots s.top.func) (sym same) ∙ is.root in
      absurd (cc)

  pub top_part : IsActivationBeside m flags roots l s.instances s.world.memory t.world.memory (length s.below) (record
      s.top { at = s.top.at + 1; values = with_value s.top.values name first }) (record t.top {
        block = s.top.block;
        at = s.top.at + 1;
        values = with_value h.values name second;
      })
  top_part = activation_there m l l s.instances s.world.memory s.world.memory t.world.memory t.world.memory
      (same_carried l s.world.memory t.world.memory) (length s.below) s.top next (with_value s.top.values name first) onward flags roots t.top h
      (with_value h.values name second)
      (part_envs m flags roots keeps answers l s.instances (length s.below) s.world t.world s.top t.top h beside.world
      beside.entered is.place name r is.slot inbounds ty indices is.here is.root is.of_slot)
      (λ slot flagged. (
        set_elsewhere s.top.values name slot first (unset slot flagged),
        set_elsewhere h.values name slot second (unset slot flagged),
      ))
      is.place.no_close
      (others_on l l s.world.memory s.world.memory t.world.memory t.world.memory (same_carried l s.world.memory
      t.world.memory) func (flags s.top.func) (roots s.top.func) s.top.values h.values (with_value s.top.values name
      first) (with_value h.values name second) h.envs (λ v other. (
        set_elsewhere s.top.values name v first (λ same. not_other v other same),
        set_elsewhere h.values name v second (λ same. not_other v other same),
      )) h.others)
      (λ slot d e flagged at there. slot_passed m l l s.instances s.world.memory s.world.memory t.world.memory
      t.world.memory (same_carried l s.world.memory t.world.memory) (length s.below) s.top next (with_value s.top.values name first) onward slot d e
      (no_start_here func slot (place_in s.top) i is.here tt) (λ live. no_end_here func slot (place_in s.top) i
      is.here tt) (same_kept l s.world.memory d) (h.each slot d e flagged at there))

  same_top : record t.top {
    block = s.top.block;
    at = s.top.at + 1;
    values = with_value h.values name second;
  } ≡ (settled t (with_part m (work_of t) name inbounds ty r indices)).top
  same_top =
      ap (λ (z : Activation). record z {
        block = s.top.block;
        at = s.top.at + 1;
        values = with_value h.values name second;
      }) h.is
      ∙ sym (ap (λ (z : Activation). record z {
        at = z.at + 1;
        values = with_value z.values name (element t.world.memory inbounds (value_in z.values r) (distance m ty
            (indices_of m z.values indices)));
      }) h.is)

  pub part_beside : IsBeside m flags roots (settled s (with_part m (work_of s) name inbounds ty r indices)) (settled t
      (with_part m (work_of t) name inbounds ty r indices))
  part_beside = record {
    ledger = l;
    outcome = beside.outcome;
    world = beside.world;
    entered = beside.entered;
    instances = beside.instances;
    top = subst (λ (z : Activation). IsActivationBeside m flags roots l s.instances s.world.memory t.world.memory
        (length s.below) (record s.top {
          at = s.top.at + 1;
          values = with_value s.top.values name first;
        }) z) same_top top_part;
    below = beside.below;
  }
