-- A slot is made anew, and another one is to follow: the framed run makes the allocas up to that one.
use Rattle.std.proofs.Common.{◌≡◌, ◌≢◌, ◌⊎◌, ◌+◌, ◌-◌, ◌≤◌, ◌∷◌, ◌++◌, ◌∙◌, [], if◌then◌else◌, Bool, List, None, Option, Some, ap, append_assoc, arith, false, inl, inr, length, length-append, refl, subst, suc, sym, take, zero, ℕ, ⊎_elim}
use Rattle.std.proofs.lemmas.List.{append_cancel_left}
use Rattle.std.specs.Prelude.{drop, option_map, slice_get}
use Rattle.pass_frames_steps.specs.flow_solver.Paths.{IsListed}
use Rattle.pass_frames_steps.proofs.ir_laws.paths.edges.Lists.{different_right}
use Rattle.pass_frames_steps.proofs.ir_laws.paths.source_rules.Locals.{listed_left, listed_right}
use Rattle.pass_frames_steps.specs.ir_laws.paths.woven_rules.Pairs.{AreDifferent}
use Rattle.pass_frames_steps.specs.ir_model.Names.{first_where, function_at}
use Rattle.pass_frames_steps.specs.ir_model.Ty.{Ty}
use Rattle.pass_frames_steps.specs.ir_model.declared.instr.Instr.{Instr}
use Rattle.pass_frames_steps.specs.ir_model.declared.module.Block.{Block}
use Rattle.pass_frames_steps.specs.ir_model.declared.module.Function.{Function}
use Rattle.pass_frames_steps.specs.ir_paths.Slots.{allocas_in}
use Rattle.pass_frames_steps.specs.ir_paths.declared.point.Point.{Point}
use Rattle.pass_frames_steps.specs.pass_cells.Kept.{entry}
use Rattle.pass_frames_steps.specs.pass_frames.Framed.{begin_of}
use Rattle.pass_frames_steps.proofs.allocating.Stands.{stands_in_front}
use Rattle.pass_frames_proof.proofs.anew.Lists.{allocas_append, allocas_apart}
use Rattle.pass_frames_proof.proofs.anew.Made as made
use Rattle.pass_frames_proof.proofs.anew.Made.{MakesAnew, allocas_shown}
use Rattle.pass_frames_proof.proofs.entering.Allocas.{up_to_next}
use Rattle.pass_frames_proof.proofs.entering.Stand.{between}
use Rattle.pass_frames_steps.proofs.layers.Standing.{take_whole}
use Rattle.pass_frames_steps.proofs.stepping.Stands.{values_of}
use Rattle.pass_frames_steps.specs.Waking.{StandsInFront}
use Rattle.pass_frames_steps.specs.Anew.{HasNextAnew, IsAtAnew}
use Rattle.pass_frames_steps.specs.Costs.{slot_cost}
use Rattle.pass_frames_steps.specs.Entering.{AreAllocasBetween, IsGoodAlloca, allocas_up_to, behind_allocas, front_allocas}
use Rattle.pass_frames_steps.specs.Followed.{IsFollowed, IsOn}
use Rattle.pass_frames_steps.specs.Meaning.{step_cost}
use Rattle.pass_frames_steps.specs.Places.{Framing, alloca_place, instrs_at, offsets, plan}
use Rattle.pass_frames_steps.specs.Related.{AreActivations, AreBuiltOf, AreCoroutines, AreNamed, Building, HasCells, is_coroutine, point_of, top_place}
use Rattle.pass_frames_steps.specs.Slotted.{HasSlotsThere}
use Rattle.pass_frames_steps.specs.Stepping.{AreGiven}
use Rattle.pass_frames_steps.specs.pass_proofs.addresses.rules.Addresses.{lies_in_frame}
use Rattle.pass_frames_steps.specs.pass_renewed_proof.Renewed.{RenewedGiven, is_renewed, renew_after, renewed_from, renewed_in, renewed_step}
use Rattle.pass_frames_steps.specs.run_agreement.Machines.{iterate}
use Rattle.pass_frames_steps.specs.run_framed.Framed.{frame_rights, framed_step}
use Rattle.pass_frames_steps.specs.run_laws.access.Lines.{StandAt}
use Rattle.pass_frames_steps.specs.run_laws.changed.Changed.{Each}
use Rattle.pass_frames_steps.specs.run_laws.memory.Pointers.{IsValue}
use Rattle.pass_frames_steps.specs.run_memory.Memory.{Rights}
use Rattle.pass_frames_steps.specs.run_memory.declared.pointer.Value.{Value}
use Rattle.pass_frames_steps.specs.run_source.State.{function_of}
use Rattle.pass_frames_steps.specs.run_source.declared.state.Activation.{Activation}
use Rattle.pass_frames_steps.specs.run_source.declared.state.Instance.{Instance}
use Rattle.pass_frames_steps.specs.run_source.declared.state.Mode.{Mode}
use Rattle.pass_frames_steps.specs.run_source.declared.state.State.{State}
use Rattle.pass_frames_steps.specs.run_step.Values.{Env, value_in}

-- ---- the line up to the next one

-- what the framed run makes, and what stands behind
pub record IsLineTo (X : Framing) (at next : ℕ) (first second : Instr) : Type 0 where
  pub line : List Instr
  pub rest : List Instr
  pub is : front_allocas X ≡ allocas_up_to X at ++ ((first ∷ line) ++ (second ∷ rest))
  pub up_to : allocas_up_to X next ≡ allocas_up_to X at ++ (first ∷ line)

line_to : (X : Framing) (at next name other align other_align : ℕ) (ty other_ty : Ty) (rest more : List Instr)
    → AreAllocasBetween X at next
    → front_allocas X ≡ allocas_up_to X at ++ (Instr.Alloca name ty align ∷ rest)
    → front_allocas X ≡ allocas_up_to X next ++ (Instr.Alloca other other_ty other_align ∷ more) → other ≢ name
    → IsLineTo X at next (Instr.Alloca name ty align) (Instr.Alloca other other_ty other_align)
line_to X at next name other align other_align ty other_ty rest more k first second apart =
    on k.line k.next_is
    (append_cancel_left (allocas_up_to X at) (k.line ++ k.behind) (Instr.Alloca name ty align ∷ rest)
    (sym k.is ∙ first))
    (append_cancel_left (allocas_up_to X next) k.behind (Instr.Alloca other other_ty other_align ∷ more)
    (ap (λ (is : List Instr). is ++ k.behind) k.next_is ∙ append_assoc (allocas_up_to X at) k.line k.behind ∙ sym k.is
    ∙ second))
  where
    on : (is : List Instr) → allocas_up_to X next ≡ allocas_up_to X at ++ is
        → is ++ k.behind ≡ Instr.Alloca name ty align ∷ rest
        → k.behind ≡ Instr.Alloca other other_ty other_align ∷ more
        → IsLineTo X at next (Instr.Alloca name ty align) (Instr.Alloca other other_ty other_align)
    on [] up from behind =
        let same : ◌≡◌ {A = List Instr} (Instr.Alloca other other_ty other_align ∷ more)
        (Instr.Alloca name ty align ∷ rest) =
        sym behind ∙ from in
        absurd (apart (cc))
    on (i ∷ line) up from behind =
        let head : i ≡ Instr.Alloca name ty align = cc in
        record {
          line = line;
          rest = more;
          is =
              second ∙ ap (λ (is : List Instr). is ++ (Instr.Alloca other other_ty other_align ∷ more)) up
              ∙ append_assoc (allocas_up_to X at) (i ∷ line) (Instr.Alloca other other_ty other_align ∷ more)
              ∙ ap (λ (j : Instr). allocas_up_to X at
              ++ ((j ∷ line) ++ (Instr.Alloca other other_ty other_align ∷ more))) head;
          up_to = up ∙ ap (λ (j : Instr). allocas_up_to X at ++ (j ∷ line)) head;
        }

-- the next alloca that is made anew stands behind
renewed_behind : (flags : ℕ → Bool) (f : Function) (at next : ℕ)
    → renewed_from flags f at ≡ Some (record { block = 0; at = next }) → at ≤ next
renewed_behind flags f at next e = on (slice_get f.blocks 0) e
  where
    place_of : Option Point → ℕ
    place_of None = 0
    place_of (Some p) = p.at

    at_block : (o : Option ℕ)
        → option_map {U = Point} (λ (k : ℕ). record { block = 0; at = k }) (option_map (λ (k : ℕ). at + k) o)
        ≡ Some (record { block = 0; at = next }) → at ≤ next
    at_block None e = absurd (cc)
    at_block (Some k) e = let same : at + k ≡ next = ap place_of e in omega (arith, same)

    on : (o : Option Block)
        → option_map {U = Point} (λ (k : ℕ). record { block = 0; at = k }) (renewed_in flags o at)
        ≡ Some (record { block = 0; at = next }) → at ≤ next
    on None e = absurd (cc)
    on (Some b) e = at_block (first_where (is_renewed flags) (drop at b.instrs)) e

stand_first : (f : Function) (at : ℕ) (is : List Instr) (k : Instr) (js : List Instr)
    → StandAt f 0 at (is ++ (k ∷ js)) → StandAt f 0 at (is ++ (k ∷ []))
stand_first f at [] k js h = (h.0, tt)
stand_first f at (i ∷ is) k js h = (h.0, stand_first f (at + 1) is k js h.1)

good_first : (is : List Instr) (k : Instr) (js : List Instr) → Each IsGoodAlloca (is ++ (k ∷ js)) → IsGoodAlloca k
good_first [] k js h = h.0
good_first (i ∷ is) k js h = good_first is k js h.1

pub part_good : (is : List Instr) (q : ℕ) → Each IsGoodAlloca is → Each IsGoodAlloca (take q is)
part_good is zero e = tt
part_good [] (suc q) e = tt
part_good (i ∷ is) (suc q) e = (e.0, part_good is q e.1)

-- ---- the states

module _ (b : Building) (g : RenewedGiven) (given : AreGiven b g) (s t : State) (r : AreBuiltOf b s t) (name : ℕ)
    (ty : Ty) (align from label order : ℕ) (h : IsAtAnew b g s name ty align from label order) (mine : HasSlotsThere s)
    (theirs : HasSlotsThere t) (q : HasNextAnew b g s name) where
  abbrev X : Framing
  X = b.framing s.top.func

  abbrev first : Instr
  first = Instr.Alloca name ty align

  abbrev second : Instr
  second = Instr.Alloca q.other q.ty q.align

  later : s.top.at ≤ q.next
  later =
      let le = renewed_behind (g.flags s.top.func) (function_at g.given.code s.top.func) (s.top.at + 1) q.next q.is in
      omega (arith, le)

  -- where the alloca stands in the framed form
  stands_here : StandsInFront X s.top.at name ty align
  stands_here =
      stands_in_front X (given.framings s.top.func h.here.coroutine) s.top.at name align ty h.here.there h.unkept h.outside

  stands_there : StandsInFront X q.next q.other q.ty q.align
  stands_there =
      stands_in_front X (given.framings s.top.func h.here.coroutine) q.next q.other q.align q.ty q.there q.unkept q.outside

  to : IsLineTo X s.top.at q.next first second
  to =
      line_to X s.top.at q.next name q.other align q.align ty q.ty stands_here.rest stands_there.rest
      (between X s.top.at first h.here.there s.top.at q.next later) stands_here.is stands_there.is q.apart

  abbrev line : List Instr
  line = to.line

  abbrev all : List Instr
  all = first ∷ line

  abbrev before : List Instr
  before = allocas_up_to X s.top.at

  -- of what stands in between nothing is handed on
  unhanded : (v : ℕ) → IsListed v (allocas_in line) → value_in s.top.values v ≡ Value.Poison
  unhanded v c =
      q.between v
      (subst (λ (is : List Instr). IsListed v (allocas_in is)) (sym to.up_to)
      (subst (IsListed v) (sym (allocas_append before all))
      (listed_right v (allocas_in before) (allocas_in all) (inr c))))
      (λ earlier. allocas_apart before (all ++ (second ∷ to.rest)) different v earlier (further all (inr c)))
      (λ same.
      allocas_apart (first ∷ []) (line ++ (second ∷ to.rest)) different_behind v (inl same) (further line c))
    where
      different : AreDifferent (allocas_in (allocas_up_to X s.top.at ++ (all ++ (second ∷ to.rest))))
      different = subst (λ (is : List Instr). AreDifferent (allocas_in is)) to.is h.fronts.different

      different_behind : AreDifferent (allocas_in (all ++ (second ∷ to.rest)))
      different_behind =
          different_right (allocas_in (allocas_up_to X s.top.at)) (allocas_in (all ++ (second ∷ to.rest)))
          (subst AreDifferent (allocas_append (allocas_up_to X s.top.at) (all ++ (second ∷ to.rest))) different)

      further : (is : List Instr) → IsListed v (allocas_in is) → IsListed v (allocas_in (is ++ (second ∷ to.rest)))
      further is l =
          subst (IsListed v) (sym (allocas_append is (second ∷ to.rest)))
          (listed_left v (allocas_in is) (allocas_in (second ∷ to.rest)) l)

  abbrev l : MakesAnew b g
  l = record {
    given = given;
    s = s;
    t = t;
    r = r;
    name = name;
    ty = ty;
    align = align;
    from = from;
    label = label;
    order = order;
    h = h;
    mine = mine;
    theirs = theirs;
    line = line;
    rest = second ∷ to.rest;
    stands = to.is;
    unhanded = unhanded;
  }

  abbrev v : State
  v = made.v b g l

  abbrev env : Env
  env = made.env b g l

  abbrev a' : Activation
  a' = made.a' b g l 0 q.next (Mode.Entering from label) env t.top.block v.top.at t.top.mode

  abbrev c' : Activation
  c' = made.c' b g l 0 q.next (Mode.Entering from label) env t.top.block v.top.at t.top.mode

  abbrev s' : State
  s' = record s { world = made.w b g l; top = a' }

  abbrev t' : State
  t' = record t { world = made.u b g l; top = c' }

  -- ---- the activation on top

  abbrev R : Rights
  R = frame_rights b.given t.instances

  old : AreCoroutines X r.homes R t s.top t.top
  old = made.old b g l

  abbrev way : made.IsOnWay b g l
  way = made.way b g l

  names : AreNamed X (made.homes b g l) a' c'
  names = record {
    each = λ m asks unkept outside. made.value_now b g l m (λ ne. asked ne unkept outside asks);
    room = (made.all_behind b g l).room ∙ old.names.room;
  }
    where
      asked : {m : ℕ} → (name ≡ m → ⊥) → entry (plan X).places m ≡ None → lies_in_frame (offsets X) m ≡ false
          → (m ≡ begin_of X.function) ⊎ IsListed m (allocas_in (take q.next (instrs_at X 0)))
          → IsValue r.homes (value_in s.top.values m) (value_in t.top.values m)
          ⊎ (value_in s.top.values m ≡ Value.Poison)
      asked {m} ne unkept outside (inl begin) = inl (made.stood_there b g l m unkept outside (inl begin))
      asked {m} ne unkept outside (inr listed) = ⊎_elim
          (λ before. inl (made.stood_there b g l m unkept outside (inr before)))
          (λ other. ⊎_elim (λ same. absurd (ne (sym same))) (λ none. inr none) other) (q.handed m listed outside)

  place_is : point_of c' ≡ top_place b a'
  place_is =
      (λ j. record { block = (makes_there j).block; at = (made.all_behind b g l).at j })
      ∙ ap (λ (p : Point). record { block = 0; at = p.at + length all }) (made.place_there b g l)
      ∙ ap (λ (n : ℕ). record { block = 0; at = n })
      (sym (length-append (allocas_up_to X s.top.at) all) ∙ ap length (sym to.up_to))
      ∙ ap (λ (c : Bool). if c then alloca_place X q.next else point_of a') (sym h.here.coroutine)
    where
      makes_there : point_of t.top ≡ alloca_place X s.top.at
      makes_there = made.place_there b g l

  top_now : AreActivations b (made.homes b g l) (made.shows b g l) t' (top_place b) a' c'
  top_now = record {
    func = r.top.func;
    place = place_is;
    result = r.top.result;
    mode = r.top.mode ∙ h.mode;
    instance = r.top.instance;
    has_left = r.top.has_left;
    values = values_of b (made.homes b g l) R t' a' c' (is_coroutine b s.top.func) h.here.coroutine (record {
      names = names;
      cells =
          subst (λ (o : Option Instance). HasCells X (made.homes b g l) R t'.world.memory o a' c'
          (entry (plan X).returns label)) (sym way.there)
          (subst (λ (o : Option ℕ). HasCells X (made.homes b g l) R t'.world.memory (Some way.instance) a' c' o)
          (sym h.returns)
          (made.held_now b g l, made.gone_now b g l));
      made = tt;
    });
    slots = made.slots b g l 0 q.next (Mode.Entering from label) env t.top.block v.top.at t.top.mode;
  }

  related : AreBuiltOf b s' t'
  related =
      made.related_with b g l 0 q.next (Mode.Entering from label) env t.top.block v.top.at t.top.mode refl top_now

  -- ---- the steps

  source_is : renewed_step g s ≡ s'
  source_is = made.step_is b g l ∙ ap (renew_after g (made.stepped b g l) from label) q.is

  second_good : IsGoodAlloca second
  second_good = good_first all second to.rest (made.good b g l)

  stand_all : StandAt (function_of b.given.given t) 0 t.top.at (all ++ (second ∷ []))
  stand_all = stand_first (function_of b.given.given t) t.top.at all second to.rest (made.stand b g l)

  reached : (n : ℕ) → n ≤ length all → iterate (framed_step b.given) n t ≡ behind_allocas b.given t (take n all)
  reached n le =
      up_to_next b.given from label t (made.makes b g l) all second (made.all_good b g l) second_good stand_all n le

  target_is : iterate (framed_step b.given) (length all) t ≡ t'
  target_is =
      reached (length all) (itself_le (length all))
      ∙ ap (behind_allocas b.given t) (take_whole all)
      ∙ made.behind_is b g l
    where
      itself_le : (n : ℕ) → n ≤ n
      itself_le n = omega arith

  cost : step_cost b g s s.top.mode ≡ length all
  cost =
      ap (step_cost b g s) h.mode
      ∙ ap (λ (o : Option Point). slot_cost X s.top.at (option_map (λ (p : Point). p.at) o)) q.is
      ∙ ap (λ (is : List Instr). length is - length (allocas_up_to X s.top.at)) to.up_to
      ∙ ap (λ (n : ℕ). n - length (allocas_up_to X s.top.at)) (length-append (allocas_up_to X s.top.at) all)
      ∙ behind (length (allocas_up_to X s.top.at)) (length all)
    where
      behind : (m n : ℕ) → (m + n) - m ≡ n
      behind m n = omega arith

  pub next_followed : IsFollowed b g s t
  next_followed = record {
    steps = length all;
    few = subst (λ (n : ℕ). length all ≤ n) (sym cost) (itself_le (length all));
    goes_on = inl (omega arith);
    passes = λ n pos lt.
        inl (subst (IsOn b s) (sym (reached n (omega (arith, lt))))
        (allocas_shown b s t r given.framings (made.running b g l) (take n all)
        (part_good all n (made.all_good b g l))));
    related = subst (λ (z : State × State). AreBuiltOf b z.0 z.1) (λ j. (sym source_is j, sym target_is j)) related;
  }
    where
      itself_le : (n : ℕ) → n ≤ n
      itself_le n = omega arith
