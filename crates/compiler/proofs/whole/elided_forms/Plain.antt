-- A function that is no coroutine breaks no rule when it gives its callees frames.
use Rattle.std.proofs.Common.{◌≡◌, ℕ, zero, suc, ◌+◌, ◌<◌, ◌≤◌, Bool, true, false, List, [], ◌∷◌, ◌++◌, length, map, refl, sym, ap, ◌∙◌, subst, arith, ◌⊎◌, inl, inr, ⊎_elim, Some, None, Option}
use Rattle.std.proofs.lemmas.List.{map-append}
use Rattle.std.specs.List.{list_any}
use Rattle.std.specs.Prelude.{codes, is_some, option_map, slice_get, if◌then◌else◌, ◌&&◌, ◌||◌}
use Rattle.compiler.proofs.cleanup.accepted.Ramps.{has_functions_still}
use Rattle.compiler.proofs.whole.elided_forms.Allocas.{IsInFront, front_fits, names_count, stands_in_front}
use Rattle.compiler.proofs.whole.elided_forms.Callable.{may_be_called}
use Rattle.compiler.proofs.whole.elided_forms.Called.{is_called}
use Rattle.compiler.proofs.whole.elided_forms.Calls.{Fits, FitsBlocks, FitsOne, IsGivable, Ready, all_given}
use Rattle.compiler.proofs.whole.elided_forms.Free.{given_free}
use Rattle.compiler.proofs.whole.elided_forms.Ramp.{ramp_is_there}
use Rattle.compiler.proofs.whole.elided_forms.Rooms.{IsAllocaFrame, IsGivenAt, given_at, rooms_fit, site_fits}
use Rattle.compiler.proofs.whole.elided_forms.Same.{names_stay, signatures_stay}
use Rattle.compiler.proofs.cleanup.unnamed_intrinsics.Woven.{woven_free_by}
use Rattle.compiler.specs.cleanup.accepted.Ramps.{with_given_ramps}
use Rattle.compiler.specs.cleanup.unnamed_intrinsics.Unnamed.{NamesNoIntrinsic}
use Rattle.compiler.specs.whole.elided_forms.Sites.{MayBeGiven}
use Rattle.frame_layout.specs.declared.layout.Layout.{Layout}
use Rattle.frame_layout.specs.declared.layout.Layouts.{Layouts}
use Rattle.ir_base.specs.declared.name.Name.{Name}
use Rattle.ir_base.specs.declared.outcome.Place.{Place}
use Rattle.ir_model.specs.Names.{noalloc_of, same_name}
use Rattle.ir_model.specs.Ty.{Ty, array, int, ptr}
use Rattle.ir_model.specs.declared.instr.Instr.{Instr}
use Rattle.ir_model.specs.declared.instr.Terminator.{Terminator}
use Rattle.ir_model.specs.declared.module.Block.{Block}
use Rattle.ir_model.specs.declared.module.Function.{Function}
use Rattle.ir_model.specs.declared.module.Module.{Module}
use Rattle.ir_model.specs.declared.operand.Arg.{Arg}
use Rattle.ir_model.specs.declared.operand.Callee.{Callee}
use Rattle.pass_split.specs.Given.{called_names, has_given_call}
use Rattle.pass_elide.proofs.Unchanged.{become}
use Rattle.pass_elide.specs.Elided.{behind, block_frames, blocks_frames, coroutine_frame, elided_all, elided_block, elided_blocks}
use Rattle.pass_elide.specs.Elided.{elided_by, elided_function, elided_instrs, elided_module, frame_address, frame_allocas}
use Rattle.pass_elide.specs.Elided.{frame_in, frames_by, function_frames, given_call, with_front as with_given_front}
use Rattle.pass_elide.specs.Frames.{layout_of, site_frame}
use Rattle.pass_elide.specs.declared.given.GivenFrame.{GivenFrame}
use Rattle.pass_proofs.proofs.ir_laws.facts.Members.{at_each}
use Rattle.pass_proofs.proofs.ir_laws.facts.Numbers.{names_stay_short}
use Rattle.pass_proofs.proofs.ir_laws.facts.Truth.{holds, same_name-itself}
use Rattle.pass_proofs.proofs.ir_laws.facts.same_names.Lists.{IsFound, what_is_found}
use Rattle.pass_proofs.proofs.ir_laws.paths.replaced.Known.{of_listed}
use Rattle.pass_proofs.proofs.ir_laws.paths.source_rules.Locals.{Apart, listed_left, listed_right}
use Rattle.pass_proofs.proofs.ir_tables.Tables.{same_name-same}
use Rattle.pass_proofs.proofs.rule_laws.frames.replaced.Extended.{go_by_functions}
use Rattle.pass_proofs.proofs.rule_laws.rules.function_rules.Signatures.{go_by_signatures}
use Rattle.pass_proofs.proofs.rule_laws.rules.function_rules.Stages.{rules_larger}
use Rattle.pass_proofs.proofs.rule_laws.rules.given_calls.Rules.{given_keeps}
use Rattle.pass_proofs.proofs.rule_laws.rules.local_rules.Defined.{value_defined}
use Rattle.pass_proofs.proofs.rule_laws.rules.local_rules.Names.{numbers}
use Rattle.pass_proofs.proofs.rule_laws.rules.local_rules.Woven.{apart_names}
use Rattle.pass_proofs.proofs.rule_laws.rules.replaced.OwnKinds.{MakesIn, PhiMakesIn, own_kinds}
use Rattle.pass_proofs.proofs.rule_laws.rules.replaced.Passed.{IsAll}
use Rattle.pass_proofs.proofs.rule_laws.rules.same_names.Items.{same_names_keep_items}
use Rattle.pass_proofs.proofs.rule_laws.rules.same_names.Made.{Part}
use Rattle.pass_proofs.proofs.rule_laws.rules.same_names.Spellings.{OfNoalloc}
use Rattle.pass_proofs.proofs.split.names.Parts.{made_is_new}
use Rattle.pass_proofs.proofs.rule_laws.rules.source_rules.Locals.{names_are}
use Rattle.pass_proofs.proofs.rule_laws.rules.woven_rules.Fronts.{front_keeps, front_woven}
use Rattle.pass_proofs.proofs.rule_laws.rules.woven_rules.Laid.{laid_by}
use Rattle.pass_proofs.proofs.rule_laws.rules.woven_rules.Once.{below}
use Rattle.pass_proofs.proofs.rule_laws.rules.woven_rules.Pieces.{made_contains}
use Rattle.pass_proofs.proofs.rule_laws.rules.woven_rules.Unbroken.{Passes, PassesIn, all_pass}
use Rattle.pass_proofs.specs.flow_solver.Paths.{IsListed}
use Rattle.pass_proofs.specs.ir_laws.facts.same_names.Short.{HaveShortNames}
use Rattle.pass_proofs.specs.ir_parts.Locals.{locals_of}
use Rattle.pass_proofs.specs.ir_parts.Parts.{OfInstr}
use Rattle.pass_proofs.specs.pass_fetch.Blocks.{numbered_names}
use Rattle.pass_proofs.specs.rule_laws.frames.same_names.Parts.{HasSignature}
use Rattle.pass_proofs.specs.rule_laws.rules.function_rules.Kept.{KeepsFunctionRules, KeepsFunctionRulesAt}
use Rattle.pass_proofs.specs.rule_laws.rules.given_calls.Given.{AreGivenBlocks, IsFrameThere, with_blocks}
use Rattle.pass_proofs.specs.rule_laws.rules.plain_rules.Items.{KeepsItemRules}
use Rattle.pass_proofs.specs.rule_laws.rules.woven_rules.Fronts.{with_front, with_front_block}
use Rattle.pass_proofs.specs.rule_locals.Instrs.{on_instr}
use Rattle.pass_proofs.specs.rule_locals.Transfers.{breaks_transfers}
use Rattle.pass_proofs.specs.rule_names.Known.{is_value}
use Rattle.pass_proofs.specs.rule_names.Reserved.{is_reserved}
use Rattle.pass_proofs.specs.rule_names.declared.stage.Stage.{Stage}
use Rattle.pass_proofs.specs.rule_types.Signatures.{calls_otherwise, fits_function, fits_named, fits_position}
use Rattle.pass_proofs.specs.rule_uses.Undefined.{Entry, IsUndefined, Next, ReachesWithout}
use Rattle.pass_proofs.specs.rule_uses.Uses.{made_by_instrs, phi_values, use_of, values_at, values_in}
use Rattle.pass_proofs.specs.rule_values.Kinds.{value_kind}
use Rattle.pass_proofs.specs.rule_values.declared.kinds.Kind.{Kind}
use Rattle.pass_proofs.specs.run_laws.changed.Changed.{Each}

without_tail : (b : Bool) → (b && true) ≡ false → b ≡ false
without_tail true e = absurd (cc)
without_tail false e = refl

begun_at : (front : List Instr) (bs : List Block) (b : Block) → slice_get bs 0 ≡ Some b
    → slice_get (with_front_block front bs) 0 ≡ Some (record b { instrs = front ++ b.instrs })
begun_at front [] b e = absurd (cc)
begun_at front (c ∷ bs) b e =
    let same : c ≡ b = cc in ap (λ (x : Block). Some (record x { instrs = front ++ x.instrs })) same

-- each block has the phis that it had
phis_same : (front : List Instr) (at : ℕ) (bs : List Block) (b c : Block) → slice_get bs at ≡ Some b
    → slice_get (with_front_block front bs) at ≡ Some c → c.phis ≡ b.phis
phis_same front at [] b c d h = absurd (cc)
phis_same front zero (x ∷ bs) b c d h =
    let old : x ≡ b = cc in
    let new : record x { instrs = front ++ x.instrs } ≡ c = cc in
    ap (λ (y : Block). y.phis) (sym new) ∙ ap (λ (y : Block). y.phis) old
phis_same front (suc at) (x ∷ bs) b c d h =
    let both : Some c ≡ Some b = sym h ∙ d in
    let same : c ≡ b = cc in
    ap (λ (y : Block). y.phis) same

-- ---- what the entry makes is there in each other block

reaches_entry : (f : Function) (v block : ℕ) → ReachesWithout f v block
    → (block ≡ 0) ⊎ (IsListed v (values_at f 0) → ⊥)
reaches_entry f v _ Entry = inl refl
reaches_entry f v _ (Next from to r none e) = ⊎_elim at_entry (λ h. inr h) (reaches_entry f v from r)
  where
    at_entry : from ≡ 0 → (to ≡ 0) ⊎ (IsListed v (values_at f 0) → ⊥)
    at_entry same = inr (subst (λ (b : ℕ). IsListed v (values_at f b) → ⊥) same none)

-- a pointer that an instruction of the entry makes
module _ (k : ℕ) (f : Function) (b : Block) (there : slice_get f.blocks 0 ≡ Some b) (v : ℕ)
    (value : is_value k f v ≡ true) (kind : value_kind f v ≡ Some Kind.Ptr) where
  frame_in_entry : (later : List ℕ) → IsListed v later → IsFrameThere k f 0 later v
  frame_in_entry later l = record { is_value = value; kind = kind; made = λ p h. h.not_before l }

  frame_elsewhere : (block : ℕ) (later : List ℕ) → (block ≡ 0 → ⊥) → IsListed v (values_at f 0)
      → IsFrameThere k f block later v
  frame_elsewhere block later other l =
      record {
        is_value = value;
        kind = kind;
        made = λ p h. ⊎_elim other (λ none. none l) (reaches_entry f v block h.reaches);
      }

module _ (layouts : Layouts) (sites : List Place) (m : Module) (items : KeepsItemRules Stage.Source m)
    (short : HaveShortNames m) (may : MayBeGiven layouts m) where
  abbrev e : Module
  e = elided_module layouts sites m

  abbrev R : Module
  R = with_given_ramps e

  items_e : KeepsItemRules Stage.Source e
  items_e = same_names_keep_items Stage.Source m e (names_stay layouts sites m) items

  short_e : HaveShortNames e
  short_e = names_stay_short m e (names_stay layouts sites m) short

  -- the rules of the function as it was, in the module with the ramps
  pub rules_there : (k : ℕ) (f : Function) → KeepsFunctionRules m k f → KeepsFunctionRulesAt Stage.Plain R k f
  rules_there k f h =
      rules_larger Stage.Source R k f
      (go_by_functions Stage.Source e R k f (has_functions_still layouts e items_e short_e)
      (go_by_signatures m e k f (signatures_stay layouts sites m) h))

  module _ (k : ℕ) (f : Function) (there : slice_get m.functions k ≡ Some f) (plain : f.coroutine ≡ false)
      (rules : KeepsFunctionRules m k f) where
    abbrev frame : ℕ → ℕ → Instr → Option GivenFrame
    frame = site_frame m layouts.coroutines sites k

    abbrev rooms : List GivenFrame
    rooms = function_frames frame f

    abbrev first : ℕ
    first = length f.names

    abbrev front : List Instr
    front = frame_allocas first rooms

    abbrev names : List Name
    names = numbered_names (codes "$c.callee.") (length rooms)

    abbrev fronted : Function
    fronted = with_front front names f

    abbrev blocks : List Block
    blocks = elided_all frame first f.blocks

    are_rooms : Each IsAllocaFrame rooms
    are_rooms = rooms_fit frame (site_fits layouts sites m may k) 0 f.blocks

    fronted_keeps : KeepsFunctionRulesAt Stage.Plain R k fronted
    fronted_keeps =
        front_keeps Stage.Plain R k f front names (rules_there k f rules)
        (front_fits R f names rooms (names_count (codes "$c.callee.") (length rooms)) are_rooms)

    -- the function gives frames in the elided module
    gives : slice_get e.functions k ≡ Some (elided_function frame f)
    gives =
        become layouts sites m k
        ∙ ap (option_map (λ g. elided_function (frame_in m layouts.coroutines sites k g) g)) there
        ∙ ap (λ (b : Bool). Some (elided_function (if b then coroutine_frame (layout_of layouts.coroutines k) f else frame) f))
        plain

    -- ---- the new names

    module _ (b : Block) (entry : slice_get f.blocks 0 ≡ Some b) where
      abbrev begun : Block
      begun = record b { instrs = front ++ b.instrs }

      begins : slice_get fronted.blocks 0 ≡ Some begun
      begins = begun_at front f.blocks b entry

      module _ (v : ℕ) (low : first ≤ v) (high : v < first + length rooms) where
        stands : IsInFront v front
        stands = stands_in_front first v rooms are_rooms low high

        in_block : IsListed (Instr.Alloca v (array stands.size (int 8)) stands.align) begun.instrs
        in_block = listed_left (Instr.Alloca v (array stands.size (int 8)) stands.align) front b.instrs stands.listed

        apart : Apart (numbers fronted)
        apart = subst Apart (names_are k fronted) (apart_names [] (locals_of k fronted) fronted_keeps.definitions)

        kind : value_kind fronted v ≡ Some Kind.Ptr
        kind =
            let all = at_each (IsAll (PhiMakesIn (value_kind fronted)) (MakesIn (value_kind fronted))
            (λ (t : Terminator). Unit {0})) fronted.blocks 0 begun (own_kinds fronted apart) begins in
            sym (of_listed (MakesIn (value_kind fronted)) begun.instrs
            (Instr.Alloca v (array stands.size (int 8)) stands.align) all.instrs in_block v refl)

        value : is_value k fronted v ≡ true
        value = value_defined v k fronted ∙ ap (λ (o : Option Kind). is_some o) kind

        made_ahead : IsListed v (made_by_instrs (phi_values b) front)
        made_ahead =
            made_contains (phi_values b) front (Instr.Alloca v (array stands.size (int 8)) stands.align) v stands.listed
            refl

        made_there : IsListed v (values_at fronted 0)
        made_there =
            subst (λ (o : Option Block). IsListed v (values_in o)) (sym begins)
            (made_contains (phi_values b) (front ++ b.instrs)
            (Instr.Alloca v (array stands.size (int 8)) stands.align) v in_block refl)

        ready_elsewhere : (block : ℕ) → (block ≡ 0 → ⊥) → (later : List ℕ) → IsFrameThere k fronted block later v
        ready_elsewhere block other later =
            frame_elsewhere k fronted begun begins v value kind block later other made_there

        ready_in_entry : (later : List ℕ)
            → ((y : ℕ) → IsListed y (made_by_instrs (phi_values b) front) → IsListed y later)
            → IsFrameThere k fronted 0 later v
        ready_in_entry later up = frame_in_entry k fronted begun begins v value kind later (up v made_ahead)

    -- ---- calls with rooms

    -- what the elided function calls in one of its blocks, the module calls
    called : (block : ℕ) (r : Option ℕ) (must_tail : Bool) (ty : Option Ty) (y : Name) (args : List Arg) (c : Block)
        → slice_get blocks block ≡ Some c → IsListed (Instr.Call r must_tail ty (Callee.Named y) args) c.instrs
        → list_any (λ d. same_name y d.name) (called_names e.functions) ≡ true
    called block r must_tail ty y args c stands l =
        is_called (λ d. same_name y d.name) e.functions k block (elided_function frame f) c r must_tail ty y args gives
        stands l (same_name-itself y)

    -- no call of a source is a musttail call (Y5), and each fits its callee (Y2)
    module _ (block at : ℕ) (i : Instr) (r : GivenFrame) (x : IsGivenAt m layouts.coroutines sites k block at i r)
        (fits : Passes (calls_otherwise m) (OfInstr i))
        (stays : Passes (on_instr (breaks_transfers Stage.Source f)) (OfInstr i))
        (calls : list_any (λ d. same_name (noalloc_of x.name) d.name) (called_names e.functions) ≡ true) where
      abbrev types : List Ty
      types = map (λ a. a.ty) x.args

      found : IsFound (λ (g : Function). same_name g.name x.name) m.functions x.callee
      found = what_is_found (λ (g : Function). same_name g.name x.name) m.functions x.callee x.named

      abbrev callee : Function
      callee = found.element

      same : callee.name ≡ x.name
      same = same_name-same callee.name x.name found.passes

      coroutine : callee.coroutine ≡ true
      coroutine =
          may.coroutines x.found.position x.layout callee x.found.stands
          (ap (slice_get m.functions) x.found.coroutine ∙ found.stands)

      abbrev after : Function
      after = elided_function (frame_in m layouts.coroutines sites x.callee callee) callee

      after_there : slice_get e.functions x.callee ≡ Some after
      after_there =
          become layouts sites m x.callee
          ∙ ap (option_map (λ g. elided_function (frame_in m layouts.coroutines sites x.callee g) g)) found.stands

      given_now : has_given_call e after ≡ true
      given_now =
          subst (λ (y : Name). list_any (λ d. same_name (noalloc_of y) d.name) (called_names e.functions) ≡ true)
          (sym same) calls

      signature : HasSignature R (noalloc_of x.name) callee.result (map (λ p. p.ty) callee.params ++ ptr ∷ [])
      signature =
          subst
          (λ (y : Name). HasSignature R (noalloc_of y) callee.result (map (λ p. p.ty) callee.params ++ ptr ∷ [])) same
          (ramp_is_there e items_e short_e x.callee after after_there coroutine given_now)

      no_tail : x.must_tail ≡ false
      no_tail =
          without_tail x.must_tail
          (sym (ap (λ (j : Instr). on_instr (breaks_transfers Stage.Source f) stays.0 (OfInstr j)) x.is) ∙ stays.1)

      fit : fits_function x.ty types (Some callee) ≡ true
      fit =
          sym (ap (fits_function x.ty types) found.stands) ∙ sym (ap (fits_position m x.ty types x.name) x.named)
          ∙ holds (fits_named m x.ty types x.name)
          (sym (ap (λ (j : Instr). calls_otherwise m fits.0 (OfInstr j)) x.is) ∙ fits.1)

      usual : is_reserved (noalloc_of x.name) ≡ false
      usual =
          subst (λ (y : Name). is_reserved (noalloc_of y) ≡ false) same
          (made_is_new layouts e items_e short_e (noalloc_of callee.name) (record {
            position = x.callee;
            source = after;
            stands = after_there;
            is = Part (codes ".noalloc") OfNoalloc coroutine refl;
          })).2

      givable : IsGivable R i
      givable =
          record {
            result = x.result;
            ty = x.ty;
            name = x.name;
            args = x.args;
            is = x.is ∙ ap (λ (b : Bool). Instr.Call x.result b x.ty (Callee.Named x.name) x.args) no_tail;
            may = λ n. may_be_called R x.ty (noalloc_of x.name) x.args n callee signature fit usual;
          }

    -- ---- all instructions

    abbrev last : ℕ
    last = first + length rooms

    abbrev Calls : List Instr → Type 0
    Calls = Each (λ (i : Instr). Passes (calls_otherwise m) (OfInstr i))

    abbrev Transfers : List Instr → Type 0
    Transfers = Each (λ (i : Instr). Passes (on_instr (breaks_transfers Stage.Source f)) (OfInstr i))

    given_listed : (block at v : ℕ) (i : Instr) (is : List Instr) (r : GivenFrame) → frame block at i ≡ Some r
        → IsListed (given_call v i) (elided_instrs (frame block) at v (i ∷ is))
    given_listed block at v i is r e =
        subst
        (λ (o : Option GivenFrame).
        IsListed (given_call v i)
        (elided_by v o i ++ elided_instrs (frame block) (at + 1) (length (frames_by o) + v) is)) (sym e)
        (listed_left (given_call v i) (elided_by v (Some r) i)
        (elided_instrs (frame block) (at + 1) (length (frames_by (Some r)) + v) is)
        (listed_right (given_call v i) (frame_address v r) (given_call v i ∷ []) (inl refl)))

    instrs_fit : (block at v : ℕ) (c : Block) → slice_get blocks block ≡ Some c → (is : List Instr) → Calls is
        → Transfers is → ((j : Instr) → IsListed j (elided_instrs (frame block) at v is) → IsListed j c.instrs)
        → Fits R k fronted frame first last block at is
    instrs_fit block at v c there [] calls transfers up = tt
    instrs_fit block at v c there (i ∷ is) calls transfers up =
        let w : ℕ = length (frames_by (frame block at i)) + v in (
          one,
          instrs_fit block (at + 1) w c there is calls.1 transfers.1
              (λ j l. up j (listed_right j (elided_by v (frame block at i) i) (elided_instrs (frame block) (at + 1) w is) l)),
        )
      where
        one : FitsOne R k fronted frame first last block at i
        one r e =
            let x = given_at m layouts.coroutines sites k block at r i e in
            let listed : IsListed (given_call v (Instr.Call x.result x.must_tail x.ty (Callee.Named x.name) x.args)) c.instrs =
            subst (λ (j : Instr). IsListed (given_call v j) c.instrs) x.is
            (up (given_call v i) (given_listed block at v i is r e)) in (
              givable block at i r x calls.0 transfers.0
                  (called block x.result x.must_tail x.ty (noalloc_of x.name) _ c there listed),
              site_fits layouts sites m may k block at i r e,
            )

    -- a block stands in the elided function with what it has
    record IsIn (block : ℕ) (c : Block) : Type 0 where
      whole : Block
      stands : slice_get blocks block ≡ Some whole
      up : (j : Instr) → IsListed j c.instrs → IsListed j whole.instrs

    blocks_fit : (block v : ℕ) (bs : List Block)
        → ((n : ℕ) (c : Block) → slice_get (elided_blocks frame block v bs) n ≡ Some c → IsIn (block + n) c)
        → Each (PassesIn (calls_otherwise m)) bs → Each (PassesIn (on_instr (breaks_transfers Stage.Source f))) bs
        → FitsBlocks R k fronted frame first last block bs
    blocks_fit block v [] there calls transfers = tt
    blocks_fit block v (b ∷ bs) there calls transfers =
        let x : IsIn (block + 0) (elided_block frame block v b) = there 0 (elided_block frame block v b) refl in
        let here : block + 0 ≡ block = omega arith in
        let y : IsIn block (elided_block frame block v b) =
        subst (λ (n : ℕ). IsIn n (elided_block frame block v b)) here x in
        let w : ℕ = length (block_frames frame block b) + v in (
          instrs_fit block (length b.phis) v y.whole y.stands b.instrs calls.0.of_instrs transfers.0.of_instrs y.up,
          blocks_fit (block + 1) w bs
              (λ n c e. let same : block + suc n ≡ (block + 1) + n = omega arith in
              subst (λ (q : ℕ). IsIn q c) same (there (suc n) c e)) calls.1 transfers.1,
        )

    -- the entry stands behind its allocas
    fronted_in : (bs : List Block) → blocks ≡ with_given_front front bs → (n : ℕ) (c : Block)
        → slice_get bs n ≡ Some c → IsIn n c
    fronted_in [] is n c e = absurd (cc)
    fronted_in (b ∷ bs) is zero c e =
        let same : b ≡ c = cc in
        subst (IsIn 0) same (record {
          whole = behind front b;
          stands = ap (λ (xs : List Block). slice_get xs 0) is;
          up = λ j l. listed_right j front b.instrs l;
        })
    fronted_in (b ∷ bs) is (suc n) c e =
        record { whole = c; stands = ap (λ (xs : List Block). slice_get xs (suc n)) is ∙ e; up = λ j l. l }

    all_fit : FitsBlocks R k fronted frame first last 0 f.blocks
    all_fit =
        blocks_fit 0 first f.blocks
        (λ n c e. let same : n ≡ 0 + n = omega arith in
        subst (λ (q : ℕ). IsIn q c) same (fronted_in (elided_blocks frame 0 first f.blocks) refl n c e))
        (all_pass (calls_otherwise m) k f rules.calls)
        (all_pass (on_instr (breaks_transfers Stage.Source f)) k f rules.local.transfers)

    -- ---- the function

    -- without an entry it has no new name
    no_entry : (bs : List Block) → f.blocks ≡ bs → (block : ℕ) → (block ≡ 0 → ⊥) → (before : List ℕ)
        → Ready R k fronted frame first last block before
    no_entry [] is block other before later up v low high =
        let none : length rooms ≡ 0 = ap (λ (xs : List Block). length (blocks_frames frame 0 xs)) is in
        absurd (omega (arith, none, low, high))
    no_entry (b ∷ bs) is block other before later up v low high =
        ready_elsewhere b (ap (λ (xs : List Block). slice_get xs 0) is) v low high block other later

    given : AreGivenBlocks R k fronted 0 fronted.blocks blocks
    given =
        all_given R k fronted frame first last (no_entry f.blocks refl) front f.blocks
        (λ b entry later up v low high. ready_in_entry b entry v low high later up) (omega arith) all_fit

    pub plain_keeps : KeepsFunctionRulesAt Stage.Plain R k (elided_function frame f)
    plain_keeps = given_keeps Stage.Plain R k fronted blocks given fronted_keeps

    -- ---- it names no coro intrinsic

    fronted_names : NamesNoIntrinsic k f → NamesNoIntrinsic k fronted
    fronted_names =
        let fit = front_fits R f names rooms (names_count (codes "$c.callee.") (length rooms)) are_rooms in
        let woven = front_woven Stage.Plain R k f front names (rules_there k f rules) fit in
        woven_free_by _ R k f fronted
        (laid_by _ R f fronted woven (below _ R k f fronted woven (rules_there k f rules).tabled)
        (λ at b c d h. inr (phis_same front at f.blocks b c d h)))

    pub plain_names : NamesNoIntrinsic k f → NamesNoIntrinsic k (elided_function frame f)
    plain_names h = given_free R k fronted blocks given (fronted_names h)
