-- A name of a coroutine that is kept nowhere gets values which stand for each other, in one step of both runs.
use Rattle.std.proofs.Common.{◌≡◌, ◌++◌, ◌+◌, ◌<◌, ◌≤◌, ◌∙◌, List, None, Option, Some, ap, arith, false, length, refl, subst, sym, true, ℕ, ⊎_elim}
use Rattle.pass_frames_code.specs.ir_base.declared.name.Name.{Name}
use Rattle.pass_frames_code.proofs.ir_laws.facts.Truth.{is_number}
use Rattle.pass_frames_code.specs.ir_model.Ty.{Ty, int}
use Rattle.pass_frames_code.specs.ir_model.declared.module.Function.{Function}
use Rattle.pass_frames_code.specs.ir_paths.declared.point.Point.{Point}
use Rattle.pass_frames_code.specs.pass_cells.Kept.{entry}
use Rattle.pass_frames_code.specs.pass_cells.declared.plan.KeptValue.{KeptValue}
use Rattle.pass_frames_code.proofs.code.Framed.{framed_is}
use Rattle.pass_frames_code.proofs.code.Left.{longer}
use Rattle.pass_frames_code.proofs.lines.Names.{distance_of}
use Rattle.pass_frames_code.proofs.lines.Results.{kept_is_cell}
use Rattle.pass_frames_code.proofs.stepping.After.{cell_turned, wheres_there, wheres_turned}
use Rattle.pass_frames_code.proofs.stepping.May.{coroutine_values, not_returned}
use Rattle.pass_frames_code.proofs.stepping.Names.{named_written, slots_new, edged_named}
use Rattle.pass_frames_code.proofs.stepping.Operands.{asked}
use Rattle.pass_frames_code.proofs.stepping.Rest.{LeavesRest, own_slots, rest_related}
use Rattle.pass_frames_code.proofs.stepping.Same.{rest_left}
use Rattle.pass_frames_code.proofs.stepping.Stands.{made_of, top_is, values_of}
use Rattle.pass_frames_code.specs.Framings.{IsFraming}
use Rattle.pass_frames_code.specs.Places.{Framing, copies, edged, framed, is_return, named, place, plan, unmarked, with_copies, written}
use Rattle.pass_frames_code.specs.Related.{AreActivations, AreAhead, AreBuiltOf, AreCellsRight, AreCoroutines, AreNamed, AreWheresRight, Building, HasCells, IsAhead, IsCell, IsDistanceOf, IsKeptValue, instance_in, is_coroutine, is_first, top_place}
use Rattle.pass_frames_code.specs.Saving.{HasLowAllocas}
use Rattle.pass_frames_code.specs.Stepping.{IsNotEntering}
use Rattle.pass_frames_code.specs.Suspending.{IsLooseName}
use Rattle.pass_frames_code.specs.run_framed.Framed.{frame_rights}
use Rattle.pass_frames_code.proofs.run_laws.transfer.Sets.{sets_name}
use Rattle.pass_frames_code.specs.run_laws.memory.Pointers.{IsValue}
use Rattle.pass_frames_code.specs.run_laws.transfer.Transfer.{AreSet}
use Rattle.pass_frames_code.specs.run_memory.Memory.{Rights}
use Rattle.pass_frames_code.specs.run_memory.declared.pointer.Value.{Value}
use Rattle.pass_frames_code.specs.run_source.declared.state.Activation.{Activation}
use Rattle.pass_frames_code.specs.run_source.declared.state.Instance.{Instance}
use Rattle.pass_frames_code.specs.run_source.declared.state.State.{State}
use Rattle.pass_frames_code.specs.run_step.Values.{Env, value_in, with_value}
use Rattle.pass_frames_code.proofs.stepping.After.{right_there as cells_there}
use Rattle.pass_frames_code.specs.pass_copies.Slots.{slot_names}

-- the framed form has the names of the coroutine
pub edged_framed : (x : Framing) → length (edged x).names ≤ length (framed x).names
edged_framed x =
    let a : length (edged x).names ≤ length (named x).names = edged_named x in
    let e : length (named x).names ≤ length (written x).names = named_written x in
    let one : length (written x).names ≤ length ((written x).names ++ slot_names (length (copies x).slots)) =
    longer (written x).names (slot_names (length (copies x).slots)) in
    let two : length ((written x).names ++ slot_names (length (copies x).slots)) ≤ length (with_copies x).names =
    longer ((written x).names ++ slot_names (length (copies x).slots)) _ in
    let g : length (unmarked x).names ≤ length (framed x).names =
    subst (λ (q : List Name). length (unmarked x).names ≤ length q) (sym (ap (λ (z : Function). z.names)
    (framed_is x))) (longer (unmarked x).names _) in
    let h : length (unmarked x).names ≡ length (with_copies x).names = refl in
    omega (arith, a, e, one, two, g, h)

module _ (b : Building) (s t : State) (r : AreBuiltOf b s t)
    (framings : (func : ℕ) → is_coroutine b func ≡ true → IsFraming (b.framing func))
    (coroutine : is_coroutine b s.top.func ≡ true) (mode : IsNotEntering s.top.mode)
    (unreturned : is_return (b.framing s.top.func) s.top.block ≡ false)
    (room : length s.top.values ≡ length (edged (b.framing s.top.func)).names)
    (allocas : HasLowAllocas (b.framing s.top.func)) (name : ℕ) (loose : IsLooseName (b.framing s.top.func) name)
    (v v' : Value) (stands : IsValue r.homes v v') (at : ℕ)
    (place_is : at ≡ (place (b.framing s.top.func) (record { block = s.top.block; at = s.top.at + 1 })).at) where
  abbrev x : Framing
  x = b.framing s.top.func

  abbrev R : Rights
  R = frame_rights b.given t.instances

  is : IsFraming x
  is = framings s.top.func coroutine

  abbrev env : Env
  env = with_value s.top.values name v

  abbrev other : Env
  other = with_value t.top.values name v'

  abbrev a' : Activation
  a' = record s.top { at = s.top.at + 1; values = env }

  abbrev c' : Activation
  c' = record t.top { at = at; values = other }

  abbrev own : Option Instance
  own = instance_in t.instances t.top.instance

  before : AreCoroutines x r.homes R t s.top t.top
  before = coroutine_values b r.homes R t s.top t.top (is_coroutine b s.top.func) coroutine r.top.values

  cells : AreCellsRight x r.homes R t.world.memory s.top.values t.top × AreWheresRight x R t.world.memory own t.top
  cells =
      subst (λ (o : Option ℕ). HasCells x r.homes R t.world.memory own s.top t.top o)
      (not_returned x s.top s.top.mode mode unreturned) before.cells

  enough : length s.top.values ≤ length t.top.values
  enough =
      let e = room in let f = before.names.room in let g = edged_framed x in omega (arith, e, f, g)

  set : AreSet r.homes (Some name) s.top.values t.top.values env other
  set = sets_name r.homes s.top.values t.top.values enough name v v' stands

  low : name < length (edged x).names
  low = loose.plain.name.low

  -- names of cells are behind those of the coroutine
  high : (u : ℕ) → length (edged x).names ≤ u → value_in other u ≡ value_in t.top.values u
  high u le = set.target u (λ e. not_low (same e))
    where
      same : Some name ≡ Some u → name ≡ u
      same e = cc

      not_low : name ≡ u → ⊥
      not_low e = let lt = low in omega (arith, e, lt, le)

  stays : (u : ℕ) → (name ≡ u → ⊥) → value_in env u ≡ value_in s.top.values u
  stays u n = set.source u (λ e. n (same e))
    where
      same : Some name ≡ Some u → name ≡ u
      same e = cc

  names : AreNamed x r.homes a' c'
  names = record {
    each = λ u asks unkept outside. ⊎_elim
        (λ e. set.stands u (ap Some e))
        (λ n. subst (λ (p : Value × Value). IsValue r.homes p.0 p.1)
        (λ k. (sym (stays u n) k, sym (set.target u (λ e. n (same u e))) k))
        (before.names.each u (asked x s.top s.top.mode u mode) unkept outside))
        (is_number name u);
    room = set.length_target ∙ before.names.room;
  }
    where
      same : (u : ℕ) → Some name ≡ Some u → name ≡ u
      same u e = cc

  kept_apart : (u : ℕ) (k : KeptValue) → IsKeptValue x u k → name ≡ u → ⊥
  kept_apart u k kept e =
      let no : None ≡ Some kept.number = sym loose.unkept ∙ ap (entry (plan x).places) e ∙ kept.told in absurd (cc)

  link_apart : (u cell : ℕ) → entry (plan x).cells u ≡ Some cell → name ≡ u → ⊥
  link_apart u cell told e =
      let no : None ≡ Some cell = sym loose.plain.no_distance ∙ ap (entry (plan x).cells) e ∙ told in absurd (cc)

  right : AreCellsRight x r.homes R t.world.memory env c'
  right = record {
    values = λ u k kept.
        cell_turned R t.world.memory t.top c' k.cell k.ty (IsValue r.homes (value_in env u)) refl
        (high k.cell (kept_is_cell x is u k kept).0)
        (subst (λ (z : Value). IsCell R t.world.memory t.top k.cell k.ty (IsValue r.homes z))
        (sym (stays u (kept_apart u k kept))) (cells.0.values u k kept));
    distances = λ u cell slot told root.
        cell_turned R t.world.memory t.top c' cell (int 64) (IsDistanceOf (value_in env slot) (value_in env u)) refl
        (high cell (distance_of x is u cell told).0)
        (subst (λ (z : Value × Value). IsCell R t.world.memory t.top cell (int 64) (IsDistanceOf z.0 z.1))
        (λ j. (
          sym (stays slot (λ e. loose.plain.name.no_root u slot root (sym e))) j,
          sym (stays u (link_apart u cell told)) j,
        )) (cells.0.distances u cell slot told root));
  }

  edged_written : (u : ℕ) → length (written x).names ≤ u → length (edged x).names ≤ u
  edged_written u le =
      let a = edged_named x in let e = named_written x in omega (arith, a, e, le)

  wheres : AreWheresRight x R t.world.memory own c'
  wheres =
      wheres_turned R t.world.memory t.top c' x own refl
      (λ e listed. (
        high e.cell (edged_written e.cell (slots_new x e listed).1),
        high e.temporary (edged_written e.temporary (slots_new x e listed).0),
      )) cells.1

  abbrev t' : State
  t' = record t { world = t.world; top = c' }

  after : AreCoroutines x r.homes R t' a' c'
  after = record {
    names = names;
    cells = subst (λ (o : Option ℕ). HasCells x r.homes R t.world.memory own a' c' o)
        (sym (not_returned x a' s.top.mode mode unreturned)) (right, wheres);
    made = made_of x R t.world.memory c' s.top.mode mode (
      cells_there x is r.homes R t.world.memory env c' right,
      wheres_there x R t.world.memory c' own wheres,
    );
  }

  left : LeavesRest b s t r s.world t.world
  left =
      rest_left b s t r s.world t.world (λ q. ⊥) framings refl (λ q none. refl) (λ q lt seen off. off)
      (λ q l off. off)

  block_is : t.top.block ≡ s.top.block
  block_is = ap (λ (p : Point). p.block) (r.top.place ∙ top_is b s.top coroutine mode)

  top_after : AreActivations b r.homes r.hides t' (top_place b) a' c'
  top_after = record {
    func = r.top.func;
    place = (λ j. record { block = block_is j; at = place_is j }) ∙ sym (top_is b a' coroutine mode);
    result = r.top.result;
    mode = r.top.mode;
    instance = r.top.instance;
    has_left = r.top.has_left;
    values = values_of b r.homes R t' a' c' (is_coroutine b s.top.func) coroutine after;
    slots = own_slots b s t r s.world t.world left s.top.block (s.top.at + 1) t.top.block at env other;
  }

  ahead : is_coroutine b s.top.func ≡ true → is_first s.top.mode ≡ true → s.top.block ≡ 0
      → AreAhead x r.homes r.hides s.world.memory t.world.memory a' c'
  ahead q first at_entry_block = record {
    slots = λ at u align ty e le outside.
        turned u ty align ((r.ahead.0 q first at_entry_block).slots at u align ty e (omega (arith, le)) outside)
        (set.target u (λ f. loose.no_alloca at u align ty e (same u f)));
    temporaries = λ e at align ty listed there le.
        turned e.temporary e.ty e.align
        ((r.ahead.0 q first at_entry_block).temporaries e at align ty listed there (omega (arith, le)))
        (high e.temporary (edged_written e.temporary (slots_new x e listed).0));
  }
    where
      same : (u : ℕ) → Some name ≡ Some u → name ≡ u
      same u e = cc

      turned : (u : ℕ) (ty : Ty) (align : ℕ)
          → (one : IsAhead x r.homes r.hides s.world.memory t.world.memory t.top u ty align)
          → value_in other u ≡ value_in t.top.values u
          → IsAhead x r.homes r.hides s.world.memory t.world.memory c' u ty align
      turned u ty align one value = record {
        block = one.block;
        address = value ∙ one.address;
        own = one.own;
        free = one.free;
        bytes = one.bytes;
        sized = one.sized;
        there = one.there;
      }

  pub given_related : AreBuiltOf b (record s { world = s.world; top = a' }) t'
  given_related =
      rest_related b s t r s.world t.world left s.top.block (s.top.at + 1) t.top.block at env other r.world ahead
      top_after
