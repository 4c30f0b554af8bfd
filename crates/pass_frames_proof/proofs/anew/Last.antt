-- The last slot is made anew: the framed run makes all allocas that are left, and both enter the block on the edge.
use Rattle.std.proofs.Common.{◌≡◌, ◌≢◌, ◌⊎◌, ◌+◌, ◌-◌, ◌<◌, ◌≤◌, ◌==◌, ◌∷◌, ◌++◌, ◌∙◌, [], if◌then◌else◌, Bool, List, None, Option, Some, ap, append-nil, arith, false, inl, inr, length, length-append, refl, subst, suc, sym, take, ℕ, ⊎_elim}
use Rattle.std.proofs.lemmas.Bool.{cases_eq}
use Rattle.std.specs.Prelude.{option_map, slice_get}
use Rattle.pass_frames_steps.specs.flow_solver.Paths.{IsListed}
use Rattle.pass_frames_steps.proofs.ir_laws.facts.Lists.{get_within}
use Rattle.pass_frames_steps.proofs.ir_laws.facts.Members.{each_left, each_right}
use Rattle.pass_frames_steps.proofs.ir_laws.paths.edges.Lists.{different_right}
use Rattle.pass_frames_steps.proofs.ir_laws.paths.source_rules.Locals.{listed_right}
use Rattle.pass_frames_steps.specs.ir_laws.paths.woven_rules.Pairs.{AreDifferent}
use Rattle.pass_frames_steps.specs.ir_model.Layout.{size_of}
use Rattle.pass_frames_steps.specs.ir_model.Names.{function_at, position_of}
use Rattle.pass_frames_steps.specs.ir_model.Ty.{Ty, int, ptr}
use Rattle.pass_frames_steps.specs.ir_model.declared.instr.Instr.{Instr}
use Rattle.pass_frames_steps.specs.ir_model.declared.module.Function.{Function}
use Rattle.pass_frames_steps.specs.ir_paths.Slots.{allocas_in}
use Rattle.pass_frames_steps.specs.ir_paths.declared.point.Point.{Point}
use Rattle.pass_frames_steps.specs.pass_cells.Kept.{entry}
use Rattle.pass_frames_steps.specs.pass_cells.declared.plan.KeptValue.{KeptValue}
use Rattle.pass_frames_steps.specs.pass_fetch.Fetching.{value_bytes}
use Rattle.pass_frames_steps.specs.pass_frames.Framed.{begin_of}
use Rattle.pass_frames_proof.proofs.anew.Cells.{made_on}
use Rattle.pass_frames_proof.proofs.anew.Lists.{HasLast, allocas_append, allocas_apart, has_last, itself_moved, poison_stays, rooted_value, unrooted_value}
use Rattle.pass_frames_proof.proofs.anew.Made as made
use Rattle.pass_frames_proof.proofs.anew.Made.{MakesAnew, allocas_shown}
use Rattle.pass_frames_proof.proofs.anew.Next.{part_good}
use Rattle.pass_frames_proof.proofs.entering.Allocas.{to_the_last, up_to_next}
use Rattle.pass_frames_proof.proofs.entering.Edge.{edge_is, edge_too, no_phis, no_phis_too}
use Rattle.pass_frames_proof.proofs.entering.Into.{enters, last_behind}
use Rattle.pass_frames_steps.proofs.allocating.Stands.{stands_in_front}
use Rattle.pass_frames_proof.proofs.entering.Stand.{all_before, none_behind}
use Rattle.pass_frames_steps.proofs.stepping.Stands.{top_is, values_of}
use Rattle.pass_frames_steps.specs.Anew.{HasCellsMade, HasNoneLeft, IsAtAnew, MakesLine}
use Rattle.pass_frames_steps.specs.Costs.{slot_cost}
use Rattle.pass_frames_steps.specs.Entering.{IsGoodAlloca, allocas_up_to, behind_allocas, entered, front_allocas}
use Rattle.pass_frames_steps.specs.Followed.{IsFollowed, IsOn}
use Rattle.pass_frames_steps.specs.Meaning.{step_cost}
use Rattle.pass_frames_steps.specs.Passes.{block_at}
use Rattle.pass_frames_steps.specs.Places.{Framing, edged, framed, instrs_at, offsets, place_by, plan}
use Rattle.pass_frames_steps.specs.Related.{Anything, AreActivations, AreBuiltOf, AreCellsThere, AreCoroutines, AreFieldsRight, AreGone, AreNamed, AreWheresThere, Building, HasCells, IsCell, IsHeldAs, IsKeptAs, IsKeptValue, is_coroutine, returned_from, top_place}
use Rattle.pass_frames_steps.specs.Slotted.{HasSlotsThere}
use Rattle.pass_frames_steps.specs.Stepping.{AreGiven}
use Rattle.pass_frames_steps.specs.Waking.{AreFrontsGood, HasEdgeBlock, IsCellMade, StandsInFront}
use Rattle.pass_frames_steps.specs.pass_proofs.addresses.rules.Addresses.{lies_in_frame}
use Rattle.pass_frames_steps.specs.pass_renewed_proof.Renewed.{RenewedGiven, in_new_slot, renew_after, renewed_step, renewed_values}
use Rattle.pass_frames_steps.specs.run_agreement.Machines.{iterate}
use Rattle.pass_frames_steps.specs.run_framed.Framed.{alloca_from, frame_rights, framed_step}
use Rattle.pass_frames_steps.specs.run_laws.access.Lines.{StandAt}
use Rattle.pass_frames_steps.specs.run_laws.changed.Changed.{Each}
use Rattle.pass_frames_steps.specs.run_laws.memory.Pointers.{IsValue}
use Rattle.pass_frames_steps.specs.run_memory.Memory.{Rights, decode}
use Rattle.pass_frames_steps.specs.run_memory.declared.pointer.Value.{Value}
use Rattle.pass_frames_steps.specs.run_source.State.{function_of}
use Rattle.pass_frames_steps.specs.run_source.declared.state.Activation.{Activation}
use Rattle.pass_frames_steps.specs.run_source.declared.state.Instance.{Instance}
use Rattle.pass_frames_steps.specs.run_source.declared.state.Mode.{Mode}
use Rattle.pass_frames_steps.specs.run_source.declared.state.State.{State}
use Rattle.pass_frames_steps.specs.run_step.Step.{has_markers, label_of, values_in}
use Rattle.pass_frames_steps.specs.run_step.Values.{Env, access_of, pointer_to, value_in}

module _ (b : Building) (g : RenewedGiven) (given : AreGiven b g) (s t : State) (r : AreBuiltOf b s t) (name : ℕ)
    (ty : Ty) (align from label order : ℕ) (h : IsAtAnew b g s name ty align from label order) (mine : HasSlotsThere s)
    (theirs : HasSlotsThere t) (q : HasNoneLeft b g s name label order) (made_cells : HasCellsMade b t) where
  abbrev X : Framing
  X = b.framing s.top.func

  abbrev edge : HasEdgeBlock b s.top.func label order
  edge = q.edge

  abbrev first : Instr
  first = Instr.Alloca name ty align

  -- where the alloca stands in the framed form
  stands_here : StandsInFront X s.top.at name ty align
  stands_here =
      stands_in_front X (given.framings s.top.func h.here.coroutine) s.top.at name align ty h.here.there h.unkept h.outside

  abbrev line : List Instr
  line = stands_here.rest

  abbrev all : List Instr
  all = first ∷ line

  abbrev before : List Instr
  before = allocas_up_to X s.top.at

  stands : front_allocas X ≡ before ++ (all ++ [])
  stands = stands_here.is ∙ ap (λ (is : List Instr). before ++ is) (sym (append-nil all))

  different : AreDifferent (allocas_in (before ++ all))
  different = subst (λ (is : List Instr). AreDifferent (allocas_in is)) stands_here.is h.fronts.different

  -- of what stands behind nothing is handed on
  unhanded : (v : ℕ) → IsListed v (allocas_in line) → value_in s.top.values v ≡ Value.Poison
  unhanded v c =
      q.behind v
      (subst (λ (is : List Instr). IsListed v (allocas_in is)) (sym stands_here.is)
      (subst (IsListed v) (sym (allocas_append before all))
      (listed_right v (allocas_in before) (allocas_in all) (inr c))))
      (λ earlier. allocas_apart before all different v earlier (inr c))
      (λ same. allocas_apart (first ∷ []) line different_behind v (inl same) c)
    where
      different_behind : AreDifferent (allocas_in all)
      different_behind =
          different_right (allocas_in (allocas_up_to X s.top.at)) (allocas_in all)
          (subst AreDifferent (allocas_append (allocas_up_to X s.top.at) all) different)

  abbrev l : MakesAnew b g
  l = record {
    given = given;
    s = s;
    t = t;
    r = r;
    name = name;
    ty = ty;
    align = align;
    from = from;
    label = label;
    order = order;
    h = h;
    mine = mine;
    theirs = theirs;
    line = line;
    rest = [];
    stands = stands;
    unhanded = unhanded;
  }

  abbrev v : State
  v = made.v b g l

  abbrev env : Env
  env = made.env b g l

  abbrev moved_env : Env
  moved_env = renewed_values (g.roots s.top.func) env env

  abbrev a' : Activation
  a' = made.a' b g l edge.block 0 Mode.Resumed moved_env edge.block 0 Mode.Resumed

  abbrev c' : Activation
  c' = made.c' b g l edge.block 0 Mode.Resumed moved_env edge.block 0 Mode.Resumed

  abbrev s' : State
  s' = record s { world = made.w b g l; top = a' }

  abbrev t' : State
  t' = record t { world = made.u b g l; top = c' }

  abbrev R : Rights
  R = frame_rights b.given t.instances

  old : AreCoroutines X r.homes R t s.top t.top
  old = made.old b g l

  abbrev way : made.IsOnWay b g l
  way = made.way b g l

  -- ---- values

  -- what is kept in no cell is no address in another slot
  same_value : (m : ℕ) → entry (plan X).places m ≡ None → value_in moved_env m ≡ value_in env m
  same_value m unkept = on (g.roots s.top.func m) refl
    where
      on : (o : Option ℕ) → g.roots s.top.func m ≡ o → value_in moved_env m ≡ value_in env m
      on None e = unrooted_value (g.roots s.top.func) env env m e
      on (Some root) e = ⊎_elim
          (λ same.
          rooted_value (g.roots s.top.func) env env m root e
          ∙ ap (λ (i : ℕ). in_new_slot (value_in env i) (value_in env m)) same ∙ itself_moved (value_in env m))
          (λ none.
          let e : value_in env m ≡ Value.Poison = made.other_value b g l m (λ k. none.0 (sym k)) ∙ none.1 in
          poison_stays (g.roots s.top.func) env env m e ∙ sym e) (q.own_roots m root unkept e)

  names : AreNamed X (made.homes b g l) a' c'
  names = record {
    each = λ m asks unkept outside.
        subst (λ (z : Value). IsValue (made.homes b g l) z (value_in v.top.values m)) (sym (same_value m unkept))
        (made.value_now b g l m (λ ne. handed ne unkept outside (q.handed m unkept outside)));
    room = (made.all_behind b g l).room ∙ old.names.room;
  }
    where
      handed : {m : ℕ} → (name ≡ m → ⊥) → entry (plan X).places m ≡ None → lies_in_frame (offsets X) m ≡ false
          → ((m ≡ begin_of X.function) ⊎ IsListed m (allocas_in (take s.top.at (instrs_at X 0))))
          ⊎ ((m ≡ name) ⊎ (value_in s.top.values m ≡ Value.Poison))
          → IsValue r.homes (value_in s.top.values m) (value_in t.top.values m)
          ⊎ (value_in s.top.values m ≡ Value.Poison)
      handed {m} ne unkept outside (inl asks) = inl (made.stood_there b g l m unkept outside asks)
      handed {m} ne unkept outside (inr (inl same)) = absurd (ne (sym same))
      handed {m} ne unkept outside (inr (inr none)) = inr none

  -- ---- fields

  root_address : (m slot : ℕ) (kv : KeptValue) → IsKeptValue X m kv → kv.slot ≡ Some slot
      → (n : ℕ) × (value_in env slot ≡ pointer_to n) × (value_in moved_env slot ≡ pointer_to n)
  root_address m slot kv is e =
      let a = by (cases_eq name slot) in (a.0, a.1, same_value slot (q.rooted m slot kv is e).0 ∙ a.1)
    where
      by : (name ≡ slot) ⊎ (name ≢ slot) → (n : ℕ) × (value_in env slot ≡ pointer_to n)
      by (inl same) =
          (made.n b g l, subst (λ (i : ℕ). value_in env i ≡ pointer_to (made.n b g l)) same (made.own_value b g l))
      by (inr ne) =
          ⊎_elim (λ same. absurd (ne (sym same)))
          (λ (z : (n : ℕ) × (value_in s.top.values slot ≡ pointer_to n)).
          (z.0, made.other_value b g l slot ne ∙ z.1)) (q.rooted m slot kv is e).1

  right_now : AreFieldsRight X (made.homes b g l) R (made.u b g l).memory order moved_env way.instance.block
      way.instance.start
  right_now = record {
    each = λ m position kv is crosses at.
        let f = (made.held_now b g l).each m position kv is crosses at in
        (f.0, f.1, f.2, turned m kv is kv.slot refl (decode (access_of kv.field_ty) f.0) f.3);
  }
    where
      turned : (m : ℕ) (kv : KeptValue) → IsKeptValue X m kv → (o : Option ℕ) → kv.slot ≡ o → (d : Value)
          → IsHeldAs (made.homes b g l) env m o d → IsKeptAs (made.homes b g l) moved_env m kv o d
      turned m kv is None e d k =
          subst (λ (z : Value). IsValue (made.homes b g l) z d)
          (sym (unrooted_value (g.roots s.top.func) env env m (q.roots m kv is ∙ e))) k
      turned m kv is (Some slot) e d (inl none) = inl (poison_stays (g.roots s.top.func) env env m none)
      turned m kv is (Some slot) e d (inr k) =
          let a = root_address m slot kv is e in
          inr (
            a.0,
            k.1,
            a.2,
            rooted_value (g.roots s.top.func) env env m slot (q.roots m kv is ∙ e)
                ∙ (λ j. in_new_slot (a.1 j) (k.2 j)),
            k.3,
            k.4,
          )

  gone : AreGone X order moved_env
  gone = record {
    values = λ m kv is.
        ⊎_elim (λ c. inl c) (λ e. inr (poison_stays (g.roots s.top.func) env env m e))
        ((made.gone_now b g l).values m kv is);
    links = λ m cell e none.
        poison_stays (g.roots s.top.func) env env m ((made.gone_now b g l).links m cell e none);
  }

  -- ---- cells

  at_is : t.top.at ≡ length before
  at_is = ap (λ (p : Point). p.at) (made.place_there b g l)

  makes_line : MakesLine b t all
  makes_line = record {
    code = given.code;
    function = made.framed_is b g l ∙ ap (λ (f : ℕ). framed (b.framing f)) (sym r.top.func);
    fronts = subst (λ (f : ℕ). AreFrontsGood (b.framing f)) (sym r.top.func) h.fronts;
    before = before;
    rest = [];
    stands = ap (λ (f : ℕ). front_allocas (b.framing f)) r.top.func ∙ stands;
    at = at_is;
    room = old.names.room ∙ ap (λ (f : ℕ). length (framed (b.framing f)).names) (sym r.top.func);
    frames = made.frames_low b g l;
  }

  all_cells : HasCellsMade b (record t {
    world = made.u b g l;
    top = record t.top { at = v.top.at; values = v.top.values; slots = v.top.slots };
  })
  all_cells = subst (HasCellsMade b) (made.behind_is b g l) (made_on b t all makes_line made_cells)

  cell_now : (cell : ℕ) (ty' : Ty) → size_of b.framed_code ty' ≡ value_bytes ty' → IsCellMade X cell ty'
      → IsCell R (made.u b g l).memory c' cell ty' Anything
  cell_now cell ty' sized k =
      let c = all_cells.each from label k.position cell k.align ty' (r.top.mode ∙ h.mode) made_already
      (ap (λ (f : ℕ). slice_get (front_allocas (b.framing f)) k.position) r.top.func ∙ k.there)
      (ap (λ (f : ℕ). has_markers (framed (b.framing f)) cell) r.top.func ∙ k.unmarked) sized k.aligned in
      record {
        block = c.block;
        address = c.address;
        own = c.own;
        bytes = c.bytes;
        sized = c.sized;
        holds = c.holds;
        has = tt;
      }
    where
      -- all of them are
      made_already : k.position < v.top.at
      made_already =
          let within : k.position < length (front_allocas X) =
          get_within (front_allocas X) k.position (Instr.Alloca cell ty' k.align) k.there in
          let whole : length (front_allocas X) ≡ length before + length all =
          ap length stands_here.is ∙ length-append before all in
          let at : t.top.at ≡ length before = at_is in
          let behind : v.top.at ≡ t.top.at + length all = (made.all_behind b g l).at in
          omega (arith, within, whole, at, behind)

  made_now : AreCellsThere X R (made.u b g l).memory c' × AreWheresThere X R (made.u b g l).memory c'
  made_now = (
    record {
      values = λ m kv is. cell_now kv.cell kv.ty (edge.sizes m kv is) (edge.values m kv is);
      distances = λ m cell told. cell_now cell (int 64) edge.sized_words.0 (edge.distances m cell told);
    },
    record { each = λ e listed. cell_now e.cell ptr edge.sized_words.1 (edge.wheres e listed) },
  )

  -- ---- the activation on top

  returned_is : returned_from X a' Mode.Resumed ≡ Some order
  returned_is =
      ap (λ (c : Bool). if c then entry (plan X).returns (block_at (edged X) edge.block).label else None) edge.returned
      ∙ edge.behind

  top_now : AreActivations b (made.homes b g l) (made.shows b g l) t' (top_place b) a' c'
  top_now = record {
    func = r.top.func;
    place =
        ap (λ (c : Bool). record {
          block = edge.block;
          at = place_by X (record { block = edge.block; at = 0 }) c (edge.block == 0);
        }) (sym edge.returned)
        ∙ sym (top_is b a' h.here.coroutine tt);
    result = r.top.result;
    mode = refl;
    instance = r.top.instance;
    has_left = r.top.has_left;
    values = values_of b (made.homes b g l) R t' a' c' (is_coroutine b s.top.func) h.here.coroutine (record {
      names = names;
      cells =
          subst (λ (o : Option Instance). HasCells X (made.homes b g l) R t'.world.memory o a' c'
          (returned_from X a' Mode.Resumed)) (sym way.there)
          (subst (λ (o : Option ℕ). HasCells X (made.homes b g l) R t'.world.memory (Some way.instance) a' c' o)
          (sym returned_is) (right_now, gone));
      made = made_now;
    });
    slots = made.slots b g l edge.block 0 Mode.Resumed moved_env edge.block 0 Mode.Resumed;
  }

  related : AreBuiltOf b s' t'
  related = made.related_with b g l edge.block 0 Mode.Resumed moved_env edge.block 0 Mode.Resumed refl top_now

  -- ---- the steps

  edged_is : function_at g.given.code s.top.func ≡ edged X
  edged_is = given.coroutines s.top.func h.here.coroutine

  source_is : renewed_step g s ≡ s'
  source_is =
      made.step_is b g l ∙ ap (renew_after g (made.stepped b g l) from label) q.none
      ∙ ap (λ (f : Function). record s' {
        top = record a' {
          block = position_of f label;
          values = values_in g.given.code (slice_get f.blocks (position_of f label))
              (label_of (slice_get f.blocks from)) moved_env;
        };
      }) edged_is
      ∙ ap (λ (z : ℕ × Env). record s' { top = record a' { block = z.0; values = z.1 } })
      (enters g.given.code (edged X) label (label_of (slice_get (edged X).blocks from)) moved_env edge.block
      (edge_is b s.top.func label order edge) (no_phis b s.top.func label order edge))

  parts : HasLast all
  parts = has_last first line

  abbrev init : List Instr
  init = parts.init

  parts_good : Each IsGoodAlloca (init ++ (parts.last ∷ []))
  parts_good = subst (Each IsGoodAlloca) parts.is (made.all_good b g l)

  init_good : Each IsGoodAlloca init
  init_good = each_left IsGoodAlloca init (parts.last ∷ []) parts_good

  last_good : IsGoodAlloca parts.last
  last_good = (each_right IsGoodAlloca init (parts.last ∷ []) parts_good).0

  stand : StandAt (function_of b.given.given t) 0 t.top.at (init ++ (parts.last ∷ []))
  stand =
      subst (StandAt (function_of b.given.given t) 0 t.top.at) (append-nil all ∙ parts.is) (made.stand b g l)

  long : length all ≡ length init + 1
  long = ap length parts.is ∙ length-append init (parts.last ∷ [])

  none_left : alloca_from (function_of b.given.given t) (t.top.at + length init + 1) ≡ None
  none_left =
      let front : length (front_allocas X) ≡ length before + length all =
      ap length stands_here.is ∙ length-append before all in
      let at : t.top.at ≡ length before = at_is in
      let whole : length all ≡ length init + 1 = long in
      let same : t.top.at + length init + 1 ≡ length (front_allocas X) = omega (arith, front, at, whole) in
      (λ j. alloca_from (made.framed_is b g l j) (same j)) ∙ none_behind X s.top.at first h.here.there

  reached : (n : ℕ) → n ≤ length init → iterate (framed_step b.given) n t ≡ behind_allocas b.given t (take n init)
  reached n le = up_to_next b.given from label t (made.makes b g l) init parts.last init_good last_good stand n le

  target_is : iterate (framed_step b.given) (length all) t ≡ t'
  target_is =
      ap (λ (n : ℕ). iterate (framed_step b.given) n t) (long ∙ one_more (length init))
      ∙ to_the_last b.given from label t (made.makes b g l) init parts.last init_good last_good stand none_left
      ∙ ap (λ (z : State). entered b.given z from label)
      (last_behind b.given t init parts.last ∙ ap (behind_allocas b.given t) (sym parts.is) ∙ made.behind_is b g l)
      ∙ ap (λ (f : Function). record t' {
        top = record c' {
          block = position_of f label;
          values = values_in b.given.given.code (slice_get f.blocks (position_of f label))
              (label_of (slice_get f.blocks from)) v.top.values;
        };
      }) (made.framed_is b g l)
      ∙ ap (λ (z : ℕ × Env). record t' { top = record c' { block = z.0; values = z.1 } })
      (enters b.given.given.code (framed X) label (label_of (slice_get (framed X).blocks from)) v.top.values edge.block
      (edge_too b s.top.func label order edge) (no_phis_too b s.top.func label order edge))
    where
      one_more : (n : ℕ) → n + 1 ≡ suc n
      one_more n = omega arith

  cost : step_cost b g s s.top.mode ≡ length all
  cost =
      ap (step_cost b g s) h.mode
      ∙ ap (λ (o : Option Point). slot_cost X s.top.at (option_map (λ (p : Point). p.at) o)) q.none
      ∙ ap (λ (n : ℕ). n - length before)
      (all_before X s.top.at first h.here.there ∙ ap length stands_here.is ∙ length-append before all)
      ∙ behind (length before) (length all)
    where
      behind : (m n : ℕ) → (m + n) - m ≡ n
      behind m n = omega arith

  pub last_followed : IsFollowed b g s t
  last_followed = record {
    steps = length all;
    few = subst (λ (n : ℕ). length all ≤ n) (sym cost) (itself_le (length all));
    goes_on = inl (omega arith);
    passes = λ n pos lt.
        let whole : length all ≡ length init + 1 = long in
        inl (subst (IsOn b s) (sym (reached n (omega (arith, lt, whole))))
        (allocas_shown b s t r given.framings (made.running b g l) (take n init) (part_good init n init_good)));
    related = subst (λ (z : State × State). AreBuiltOf b z.0 z.1) (λ j. (sym source_is j, sym target_is j)) related;
  }
    where
      itself_le : (n : ℕ) → n ≤ n
      itself_le n = omega arith
