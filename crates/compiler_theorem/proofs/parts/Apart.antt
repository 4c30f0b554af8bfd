-- No suspend stands in the block of the end of a framed form.
use Rattle.std.proofs.Common.{zip, ◌≡◌, ◌⊎◌, inl, inr, ℕ, zero, suc, ◌+◌, Bool, true, false, List, [], ◌∷◌, ◌++◌, length, refl, sym, ap, ◌∙◌, subst}
use Rattle.std.proofs.lemmas.Bool.{false≢true}
use Rattle.std.proofs.lemmas.Option.{slice_get-map}
use Rattle.std.specs.List.{list_any}
use Rattle.std.specs.Prelude.{None, Option, Some, if◌then◌else◌, map, option_map, slice_get, unwrap_or, ◌||◌, ◌==◌}
use Rattle.compiler_theorem.proofs.parts.Followable.{comes, kept_there, same_kind}
use Rattle.compiler_theorem.proofs.parts.Returned.{called}
use Rattle.compiler_theorem.proofs.parts.Taken.{end_told, front_ones, has_one, no_alloca_kind, of_kind, one_kind, same_ones, suspend_told}
use Rattle.compiler_theorem.specs.theorem.Lowered.{IsLowered, Lowered, early, edged, sizes_of}
use Rattle.compiler.specs.cleanup.accepted.Ready.{IsReady}
use Rattle.compiler.specs.frame_layout.declared.layout.Layout.{Layout}
use Rattle.compiler.proofs.ir_laws.facts.Truth.{not_both}
use Rattle.compiler.specs.ir_model.Names.{first_where, function_at, no_function, position_of, same_intrinsic}
use Rattle.compiler.specs.ir_model.declared.instr.Instr.{Instr}
use Rattle.compiler.specs.ir_model.declared.module.Block.{Block}
use Rattle.compiler.specs.ir_model.declared.module.Function.{Function}
use Rattle.compiler.specs.ir_model.declared.module.Module.{Module}
use Rattle.compiler.specs.ir_model.declared.operand.Callee.{Callee}
use Rattle.compiler.specs.ir_model.declared.operand.Intrinsic.{Intrinsic}
use Rattle.compiler.specs.ir_paths.Windows.{end_block, is_call_of}
use Rattle.compiler.specs.ir_paths.declared.point.Point.{Point}
use Rattle.compiler.specs.pass_edges.EdgeBlocks.{with_edge_blocks}
use Rattle.compiler.specs.pass_exits.ExitBlocks.{blocks_by, exit_blocks, with_exit_blocks}
use Rattle.compiler.specs.pass_exits.Exits.{block_exits}
use Rattle.compiler.specs.pass_exits.declared.exit.Exit.{Exit}
use Rattle.compiler.specs.pass_frames.Framed.{IsFramedCoroutine, celled, copied, layout_at, placed}
use Rattle.compiler.specs.pass_front.Front.{with_allocas_first}
use Rattle.compiler.specs.pass_intrinsics.Shapes.{end_label, has_end, is_end, shape_of}
use Rattle.compiler.specs.pass_kept_proof.Handed.{HasPlainNames}
use Rattle.compiler.specs.pass_kept_proof.SuspendRules.{IsCallAt}
use Rattle.compiler.proofs.pass_proofs.frames.numbers.Numbers.{number_given}
use Rattle.compiler.proofs.pass_proofs.frames.unnamed.Positions.{Becomes, FramedBy, Unchanged, stands_as}
use Rattle.compiler.proofs.pass_proofs.kept.sources.Whole.{split_named}
use Rattle.compiler.specs.pass_proofs.edges.states.MovedState.{edge_function}
use Rattle.compiler.specs.pass_proofs.exits.states.Exits.{exits_split}
use Rattle.compiler.proofs.rule_laws.rules.source_rules.Locals.{own_label}
use Rattle.compiler.specs.rule_laws.rules.woven_shape.Calls.{calls_of_block}
use Rattle.compiler.specs.rule_shape.Suspends.{is_suspend}
use Rattle.compiler.specs.rule_windows.Sets.{IsAfterEnd}
use Rattle.run_accepted.proofs.Accepted.{edged_places}
use Rattle.run_accepted.proofs.Alive.{ended}
use Rattle.pass_frames_meaning.specs.run_hooks.Away.{KeepsPlaceRules}
use Rattle.compiler.specs.run_step.Step.{AtInstr, Nowhere, fetch, fetch_in, fetch_or}

-- ---- what stands in a block: an end, and a suspend

abbrev has_call : Intrinsic → List Instr → Bool
has_call x is = list_any (is_call_of x) is

abbrev Marks : Type 0
Marks = Bool × Bool

abbrev marks : Block → Marks
marks b = (has_call Intrinsic.CoroEnd b.instrs, has_call Intrinsic.CoroSuspend b.instrs)

-- whether the first block with an end has a suspend
abbrev first_mark : List Marks → Option Bool
first_mark [] = None
first_mark (m ∷ ms) = if m.0 then Some m.1 else first_mark ms

abbrev any_mark : List Marks → Bool
any_mark [] = false
any_mark (m ∷ ms) = m.1 || any_mark ms

-- ---- by the calls of a block, and with allocas in front

map_marks : (bs : List Block) → map marks bs ≡ zip (map (has_one (is_call_of Intrinsic.CoroEnd)) bs)
    (map (has_one (is_call_of Intrinsic.CoroSuspend)) bs)
map_marks [] = refl
map_marks (b ∷ bs) = ap (λ (ms : List Marks). marks b ∷ ms) (map_marks bs)

marks_by : (bs cs : List Block)
    → map (has_one (is_call_of Intrinsic.CoroEnd)) cs ≡ map (has_one (is_call_of Intrinsic.CoroEnd)) bs
    → map (has_one (is_call_of Intrinsic.CoroSuspend)) cs ≡ map (has_one (is_call_of Intrinsic.CoroSuspend)) bs
    → map marks cs ≡ map marks bs
marks_by bs cs ends suspends = map_marks cs ∙ (λ i. zip (ends i) (suspends i)) ∙ sym (map_marks bs)

same_marks : (bs cs : List Block) → map calls_of_block cs ≡ map calls_of_block bs → map marks cs ≡ map marks bs
same_marks bs cs e = marks_by bs cs
    (same_ones (is_call_of Intrinsic.CoroEnd) (of_kind Intrinsic.CoroEnd end_told) (one_kind Intrinsic.CoroEnd end_told) bs cs e)
    (same_ones (is_call_of Intrinsic.CoroSuspend) (of_kind Intrinsic.CoroSuspend suspend_told)
    (one_kind Intrinsic.CoroSuspend suspend_told) bs cs e)

front_marks : (bs : List Block) → map marks (with_allocas_first bs) ≡ map marks bs
front_marks bs = marks_by bs (with_allocas_first bs)
    (front_ones (is_call_of Intrinsic.CoroEnd) (no_alloca_kind Intrinsic.CoroEnd end_told) bs)
    (front_ones (is_call_of Intrinsic.CoroSuspend) (no_alloca_kind Intrinsic.CoroSuspend suspend_told) bs)

-- ---- blocks on edges that leave windows have neither

module _ (f : Function) where
  exits_first : (n : ℕ) (es : List Exit) (rest : List Block)
      → first_mark (map marks (exit_blocks n es ++ rest)) ≡ first_mark (map marks rest)
  exits_first n [] rest = refl
  exits_first n (e ∷ es) rest = exits_first (n + 1) es rest

  exits_any : (n : ℕ) (es : List Exit) (rest : List Block)
      → any_mark (map marks (exit_blocks n es ++ rest)) ≡ any_mark (map marks rest)
  exits_any n [] rest = refl
  exits_any n (e ∷ es) rest = exits_any (n + 1) es rest

  first_stays : (at n : ℕ) (bs : List Block) → first_mark (map marks (blocks_by f at n bs)) ≡ first_mark (map marks bs)
  first_stays at n [] = refl
  first_stays at n (b ∷ bs) =
      let own = block_exits f at b in
      ap (λ (o : Option Bool). if has_call Intrinsic.CoroEnd b.instrs then Some (has_call Intrinsic.CoroSuspend b.instrs)
      else o)
      (exits_first n own (blocks_by f (at + 1) (n + length own) bs) ∙ first_stays (at + 1) (n + length own) bs)

  any_stays : (at n : ℕ) (bs : List Block) → any_mark (map marks (blocks_by f at n bs)) ≡ any_mark (map marks bs)
  any_stays at n [] = refl
  any_stays at n (b ∷ bs) =
      let own = block_exits f at b in
      ap (λ (t : Bool). has_call Intrinsic.CoroSuspend b.instrs || t)
      (exits_any n own (blocks_by f (at + 1) (n + length own) bs) ∙ any_stays (at + 1) (n + length own) bs)

-- ---- the label of the end

is_end_call : (i : Instr) → is_end i ≡ is_call_of Intrinsic.CoroEnd i
is_end_call (Instr.Call r must_tail ty (Callee.Intrinsic x) args) = on x
  where
    on : (x : Intrinsic) → is_end (Instr.Call r must_tail ty (Callee.Intrinsic x) args) ≡ same_intrinsic Intrinsic.CoroEnd x
    on Intrinsic.CoroEnd = refl
    on _ = refl
is_end_call _ = refl

ends_called : (is : List Instr) → has_end is ≡ has_call Intrinsic.CoroEnd is
ends_called [] = refl
ends_called (i ∷ is) = on (is_end i) refl (ends_called is)
  where
    on : (t : Bool) → is_end i ≡ t → has_end is ≡ has_call Intrinsic.CoroEnd is
        → (if t then true else has_end is) ≡ (is_call_of Intrinsic.CoroEnd i || has_call Intrinsic.CoroEnd is)
    on true e rest = ap (λ (b : Bool). b || has_call Intrinsic.CoroEnd is) (sym e ∙ is_end_call i)
    on false e rest = rest ∙ ap (λ (b : Bool). b || has_call Intrinsic.CoroEnd is) (sym e ∙ is_end_call i)

-- the first block with an end
record HasFirstEnd (bs : List Block) (suspends : Bool) : Type 0 where
  at : ℕ
  block : Block
  there : slice_get bs at ≡ Some block
  label : end_label bs ≡ Some block.label
  has : has_call Intrinsic.CoroSuspend block.instrs ≡ suspends

first_end : (bs : List Block) (s : Bool) → first_mark (map marks bs) ≡ Some s → HasFirstEnd bs s
first_end [] s e = absurd (cc)
first_end (b ∷ bs) s e = on (has_call Intrinsic.CoroEnd b.instrs) refl e (first_end bs s)
  where
    on : (t : Bool) → has_call Intrinsic.CoroEnd b.instrs ≡ t
        → (if t then Some (has_call Intrinsic.CoroSuspend b.instrs) else first_mark (map marks bs)) ≡ Some s
        → (first_mark (map marks bs) ≡ Some s → HasFirstEnd bs s) → HasFirstEnd (b ∷ bs) s
    on true d k more = record {
      at = 0;
      block = b;
      there = refl;
      label = ap (λ (t : Bool). if t then Some b.label else end_label bs) (ends_called b.instrs ∙ d);
      has = let same : has_call Intrinsic.CoroSuspend b.instrs ≡ s = cc in same;
    }
    on false d k more =
        let x = more k in
        record {
          at = suc x.at;
          block = x.block;
          there = x.there;
          label = ap (λ (t : Bool). if t then Some b.label else end_label bs) (ends_called b.instrs ∙ d) ∙ x.label;
          has = x.has;
        }

-- ---- a call that is there stands somewhere

record Stands (x : Intrinsic) (is : List Instr) : Type 0 where
  at : ℕ
  instr : Instr
  there : slice_get is at ≡ Some instr
  is_one : is_call_of x instr ≡ true

some_call : (x : Intrinsic) (is : List Instr) → has_call x is ≡ true → Stands x is
some_call x [] e = absurd (false≢true e)
some_call x (i ∷ is) e = on (is_call_of x i) refl e (some_call x is)
  where
    on : (t : Bool) → is_call_of x i ≡ t → (t || has_call x is) ≡ true → (has_call x is ≡ true → Stands x is)
        → Stands x (i ∷ is)
    on true d k more = record { at = 0; instr = i; there = refl; is_one = d }
    on false d k more =
        let y = more k in record { at = suc y.at; instr = y.instr; there = y.there; is_one = y.is_one }

no_such : (x : Intrinsic) (is : List Instr) → has_call x is ≡ false → (at : ℕ) (i : Instr) → slice_get is at ≡ Some i
    → is_call_of x i ≡ false
no_such x [] e at i d = absurd (cc)
no_such x (j ∷ is) e zero i d = let same : i ≡ j = cc in ap (is_call_of x) same ∙ on (is_call_of x j) e
  where
    on : (t : Bool) → (t || has_call x is) ≡ false → t ≡ false
    on true k = absurd (cc)
    on false k = refl
no_such x (j ∷ is) e (suc at) i d = no_such x is (rest (is_call_of x j) e) at i d
  where
    rest : (t : Bool) → (t || has_call x is) ≡ false → has_call x is ≡ false
    rest true k = absurd (cc)
    rest false k = k

-- a call that a fetch gives is one of its block
record IsIn (o : Option Block) (at : ℕ) (i : Instr) : Type 0 where
  block : Block
  is_block : o ≡ Some block
  there : slice_get block.instrs at ≡ Some i

fetched_in : (o : Option Block) (at : ℕ) (i : Instr) → fetch_in o at ≡ AtInstr i → IsIn o at i
fetched_in None at i e = absurd (cc)
fetched_in (Some b) at i e = on (slice_get b.instrs at) refl (at == length b.instrs) e
  where
    on : (o : Option Instr) → slice_get b.instrs at ≡ o → (t : Bool) → fetch_or o t b.term ≡ AtInstr i
        → IsIn (Some b) at i
    on None d true k = absurd (cc)
    on None d false k = absurd (cc)
    on (Some j) d t k = let same : j ≡ i = cc in record { block = b; is_block = refl; there = d ∙ ap Some same }

stands_there : (f : Function) (k at : ℕ) (b : Block) (i : Instr) → slice_get f.blocks k ≡ Some b
    → slice_get b.instrs at ≡ Some i → fetch f k at ≡ AtInstr i
stands_there f k at b i e d =
    ap (λ (o : Option Block). fetch_in o at) e ∙ ap (λ (o : Option Instr). fetch_or o (at == length b.instrs) b.term) d

-- ---- where edges have blocks

record HasSuspend (bs : List Block) : Type 0 where
  at : ℕ
  block : Block
  there : slice_get bs at ≡ Some block
  has : has_call Intrinsic.CoroSuspend block.instrs ≡ true

some_suspend : (bs : List Block) → any_mark (map marks bs) ≡ true → HasSuspend bs
some_suspend [] e = absurd (false≢true e)
some_suspend (b ∷ bs) e = on (has_call Intrinsic.CoroSuspend b.instrs) refl e (some_suspend bs)
  where
    on : (t : Bool) → has_call Intrinsic.CoroSuspend b.instrs ≡ t → (t || any_mark (map marks bs)) ≡ true
        → (any_mark (map marks bs) ≡ true → HasSuspend bs) → HasSuspend (b ∷ bs)
    on true d k more = record { at = 0; block = b; there = refl; has = d }
    on false d k more = let x = more k in record { at = suc x.at; block = x.block; there = x.there; has = x.has }

any_there : (bs : List Block) (at : ℕ) (b : Block) → slice_get bs at ≡ Some b
    → has_call Intrinsic.CoroSuspend b.instrs ≡ true → any_mark (map marks bs) ≡ true
any_there [] at b e h = absurd (cc)
any_there (c ∷ bs) zero b e h =
    let same : c ≡ b = cc in
    ap (λ (t : Bool). t || any_mark (map marks bs)) (ap (λ (x : Block). has_call Intrinsic.CoroSuspend x.instrs) same ∙ h)
any_there (c ∷ bs) (suc at) b e h = on (has_call Intrinsic.CoroSuspend c.instrs) (any_there bs at b e h)
  where
    on : (t : Bool) → any_mark (map marks bs) ≡ true → (t || any_mark (map marks bs)) ≡ true
    on true k = refl
    on false k = k

-- the first block with an end, as runs look for it
record IsFirstAt (bs : List Block) (k : ℕ) : Type 0 where
  block : Block
  there : slice_get bs k ≡ Some block
  mark : first_mark (map marks bs) ≡ Some (has_call Intrinsic.CoroSuspend block.instrs)

first_at : (bs : List Block) (k : ℕ) → first_where (λ b. has_call Intrinsic.CoroEnd b.instrs) bs ≡ Some k
    → IsFirstAt bs k
first_at [] k e = absurd (cc)
first_at (b ∷ bs) k e = on (has_call Intrinsic.CoroEnd b.instrs) refl e (first_at bs)
  where
    later : (o : Option ℕ) (k : ℕ) → option_map suc o ≡ Some k → (j : ℕ) × ((o ≡ Some j) × (k ≡ suc j))
    later None k e = absurd (cc)
    later (Some j) k e = let same : suc j ≡ k = cc in (j, (refl, sym same))

    on : (t : Bool) → has_call Intrinsic.CoroEnd b.instrs ≡ t
        → (if t then Some 0 else option_map suc (first_where (λ c. has_call Intrinsic.CoroEnd c.instrs) bs)) ≡ Some k
        → ((j : ℕ) → first_where (λ c. has_call Intrinsic.CoroEnd c.instrs) bs ≡ Some j → IsFirstAt bs j)
        → IsFirstAt (b ∷ bs) k
    on true d c more =
        let zeroth : 0 ≡ k = cc in
        subst (IsFirstAt (b ∷ bs)) zeroth (record {
          block = b;
          there = refl;
          mark = ap (λ (t : Bool). if t then Some (has_call Intrinsic.CoroSuspend b.instrs) else first_mark (map marks bs)) d;
        })
    on false d c more =
        let y = later (first_where (λ c. has_call Intrinsic.CoroEnd c.instrs) bs) k c in
        let x = more y.0 y.1.0 in
        subst (IsFirstAt (b ∷ bs)) (sym y.1.1) (record {
          block = x.block;
          there = x.there;
          mark = ap (λ (t : Bool). if t then Some (has_call Intrinsic.CoroSuspend b.instrs) else first_mark (map marks bs)) d
              ∙ x.mark;
        })

none_behind : (bs : List Block) → slice_get bs (length bs) ≡ None
none_behind [] = refl
none_behind (b ∷ bs) = none_behind bs

never_both : (i : Instr) → is_call_of Intrinsic.CoroEnd i ≡ true → is_call_of Intrinsic.CoroSuspend i ≡ true → ⊥
never_both (Instr.Call r must_tail ty (Callee.Intrinsic x) args) a b = on x a b
  where
    on : (x : Intrinsic) → same_intrinsic Intrinsic.CoroEnd x ≡ true → same_intrinsic Intrinsic.CoroSuspend x ≡ true → ⊥
    on Intrinsic.CoroEnd a b = false≢true b
    on Intrinsic.CoroSuspend a b = false≢true a
    on _ a b = false≢true a
never_both _ a b = false≢true a

module _ (m : Module) (f : Function) (rules : KeepsPlaceRules m f) (names : HasPlainNames f) where
  module _ (s : Point) (suspends : IsCallAt Intrinsic.CoroSuspend f s) where
    end_there : IsCallAt Intrinsic.CoroEnd f (record { block = end_block f; at = 0 })
    end_there =
        let x = rules.stops s suspends in
        subst (λ (k : ℕ). IsCallAt Intrinsic.CoroEnd f (record { block = k; at = 0 })) x.end x.is_end

    not_in : (k : ℕ) (b : Block) → slice_get f.blocks k ≡ Some b → k ≡ end_block f
        → has_call Intrinsic.CoroSuspend b.instrs ≡ true → ⊥
    not_in k b got is has = on (ended f names p y.instr stands is)
      where
        y : Stands Intrinsic.CoroSuspend b.instrs
        y = some_call Intrinsic.CoroSuspend b.instrs has

        p : Point
        p = record { block = k; at = y.at }

        stands : fetch f k y.at ≡ AtInstr y.instr
        stands = stands_there f k y.at b y.instr got y.there

        on : IsCallAt Intrinsic.CoroEnd f p ⊎ IsAfterEnd f p → ⊥
        on (inl c) =
            let both : AtInstr c.instr ≡ AtInstr y.instr = sym c.stands ∙ stands in
            let same : c.instr ≡ y.instr = cc in
            never_both y.instr (sym (ap (is_call_of Intrinsic.CoroEnd) same) ∙ c.is) y.is_one
        on (inr a) = rules.no_suspend p a (record { instr = y.instr; stands = stands; is = y.is_one })

    first_clear : first_mark (map marks f.blocks) ≡ Some false
    first_clear = on (first_where (λ b. has_call Intrinsic.CoroEnd b.instrs) f.blocks) refl
      where
        on : (o : Option ℕ) → first_where (λ b. has_call Intrinsic.CoroEnd b.instrs) f.blocks ≡ o
            → first_mark (map marks f.blocks) ≡ Some false
        on None e =
            let far : end_block f ≡ length f.blocks = ap (λ (o : Option ℕ). unwrap_or o (length f.blocks)) e in
            let no : Nowhere ≡ AtInstr end_there.instr
            = sym (ap (λ (o : Option Block). fetch_in o 0) (ap (slice_get f.blocks) far ∙ none_behind f.blocks))
            ∙ end_there.stands in
            absurd (cc)
        on (Some k) e =
            let x = first_at f.blocks k e in
            let here : k ≡ end_block f = sym (ap (λ (o : Option ℕ). unwrap_or o (length f.blocks)) e) in
            x.mark ∙ clear x.block x.there here (has_call Intrinsic.CoroSuspend x.block.instrs) refl
          where
            clear : (b : Block) → slice_get f.blocks k ≡ Some b → k ≡ end_block f → (t : Bool)
                → has_call Intrinsic.CoroSuspend b.instrs ≡ t → Some t ≡ Some false
            clear b got here true h = absurd (not_in k b got here h)
            clear b got here false h = refl

  pub suspended_first : any_mark (map marks f.blocks) ≡ true → first_mark (map marks f.blocks) ≡ Some false
  suspended_first e =
      let x = some_suspend f.blocks e in
      let y = some_call Intrinsic.CoroSuspend x.block.instrs x.has in
      first_clear (record { block = x.at; at = y.at })
      (record { instr = y.instr; stands = stands_there f x.at y.at x.block y.instr x.there y.there; is = y.is_one })

-- ---- framed forms of accepted sources

module _ (l : Lowered) (low : IsLowered l) where
  -- the marks of a coroutine with blocks on edges, and of its framed form
  module _ (k : ℕ) (f : Function) (there : slice_get (early l).functions k ≡ Some f) (coroutine : f.coroutine ≡ true)
    where
      edged_there : slice_get (edged l).functions k ≡ Some (edge_function f)
      edged_there = slice_get-map edge_function (early l).functions k ∙ ap (option_map edge_function) there

      pub edged_is : function_at (edged l) k ≡ with_edge_blocks f
      edged_is =
          ap (λ (o : Option Function). unwrap_or o no_function) edged_there
          ∙ ap (λ (b : Bool). if b then with_edge_blocks f else f) coroutine

      edged_rules : KeepsPlaceRules (edged l) (with_edge_blocks f)
      edged_rules =
          subst (KeepsPlaceRules (edged l)) edged_is
          ((edged_places l.text l.source low.source.stands low.source.accepted (sizes_of l) []).each k)

      edged_names : HasPlainNames (with_edge_blocks f)
      edged_names = subst HasPlainNames edged_is (split_named l.text l.source low.source.stands low.source.accepted k)

      edged_first : any_mark (map marks (with_edge_blocks f).blocks) ≡ true
          → first_mark (map marks (with_edge_blocks f).blocks) ≡ Some false
      edged_first = suspended_first (edged l) (with_edge_blocks f) edged_rules edged_names

  framed_marks : (k : ℕ) (f : Function) → slice_get (early l).functions k ≡ Some f → f.coroutine ≡ true
      → (taken : ℕ) (g : Function) → IsFramedCoroutine (early l) (layout_at l.layouts.coroutines taken) f g
      → map marks g.blocks ≡ map marks (with_edge_blocks f).blocks
  framed_marks k f there marked taken g h =
      let lay : Layout = layout_at l.layouts.coroutines taken in
      let k2 : Function = placed lay f h.contents (copied f h.contents (celled (early l) f h.contents) h.before) in
      ap (λ (y : Function). map marks y.blocks) h.is ∙ front_marks k2.blocks
      ∙ same_marks (with_edge_blocks f).blocks k2.blocks
      (called l low k f there marked lay (number_given l.layouts.coroutines taken) g h).calls

  by_form : (k : ℕ) (f g : Function) → slice_get (early l).functions k ≡ Some f
      → Becomes (early l) l.layouts.coroutines f g → g.coroutine ≡ true → any_mark (map marks g.blocks) ≡ true
      → first_mark (map marks g.blocks) ≡ Some false
  by_form k f _ there (Unchanged plain) c e = absurd (not_both f.coroutine plain c)
  by_form k f g there (FramedBy taken _ marked framed) c e =
      let same = framed_marks k f there marked taken g framed in
      ap first_mark same ∙ edged_first k f there marked (sym (ap any_mark same) ∙ e)

  exited_first : (g : Function) → (any_mark (map marks g.blocks) ≡ true → first_mark (map marks g.blocks) ≡ Some false)
      → any_mark (map marks (with_exit_blocks g).blocks) ≡ true
      → first_mark (map marks (with_exit_blocks g).blocks) ≡ Some false
  exited_first g own e =
      first_stays g 0 (length g.names) g.blocks ∙ own (sym (any_stays g 0 (length g.names) g.blocks) ∙ e)

  pub framed_apart : IsReady l.layouts l.framed → (k : ℕ) (h : Function)
      → slice_get (exits_split l.framed).functions k ≡ Some h → h.coroutine ≡ true → (lay : Layout) (at : ℕ)
      (i : Instr) → fetch h (position_of h (shape_of h lay).end) at ≡ AtInstr i → is_suspend i ≡ true → ⊥
  framed_apart ready k h there c lay at i stands suspends =
      let y = comes l.framed k h there in
      let own : y.source.coroutine ≡ true = sym (same_kind y.source) ∙ ap (λ (g : Function). g.coroutine) y.is ∙ c in
      let is : with_exit_blocks y.source ≡ h
      = sym (ap (λ (b : Bool). if b then with_exit_blocks y.source else y.source) own) ∙ y.is in
      let x = stands_as (early l) l.layouts.coroutines low.is_framed.functions.count (early l).functions
      l.framed.functions low.is_framed.functions.framed k y.source y.stands in
      let rules = kept_there l.layouts l.framed ready k h there in
      let z = fetched_in (slice_get h.blocks (position_of h (shape_of h lay).end)) at i stands in
      let any : any_mark (map marks h.blocks) ≡ true
      = any_there h.blocks (position_of h (shape_of h lay).end) z.block z.is_block
      (has_one Intrinsic.CoroSuspend z.block.instrs at i z.there suspends) in
      let first : first_mark (map marks h.blocks) ≡ Some false
      = subst (λ (g : Function). any_mark (map marks g.blocks) ≡ true → first_mark (map marks g.blocks) ≡ Some false) is
      (exited_first y.source (by_form k x.source y.source x.stands x.becomes own)) any in
      let w = first_end h.blocks false first in
      let label : (shape_of h lay).end ≡ w.block.label = ap (λ (o : Option ℕ). unwrap_or o 0) w.label in
      let place : position_of h (shape_of h lay).end ≡ w.at
      = ap (position_of h) label ∙ own_label k h rules.definitions w.at w.block w.there in
      let both : Some z.block ≡ Some w.block = sym z.is_block ∙ ap (slice_get h.blocks) place ∙ w.there in
      let same : w.block ≡ z.block = cc in
      let none : has_call Intrinsic.CoroSuspend z.block.instrs ≡ false
      = sym (ap (λ (b : Block). has_call Intrinsic.CoroSuspend b.instrs) same) ∙ w.has in
      let no : is_suspend i ≡ false = no_such Intrinsic.CoroSuspend z.block.instrs none at i z.there in
      let never : true ≡ false = sym suspends ∙ no in
      absurd (cc)
    where
      has_one : (x : Intrinsic) (is : List Instr) (at : ℕ) (i : Instr) → slice_get is at ≡ Some i
          → is_call_of x i ≡ true → has_call x is ≡ true
      has_one x [] at i e t = absurd (cc)
      has_one x (j ∷ is) zero i e t =
          let one : j ≡ i = cc in ap (λ (b : Bool). b || has_call x is) (ap (is_call_of x) one ∙ t)
      has_one x (j ∷ is) (suc at) i e t = on (is_call_of x j) (has_one x is at i e t)
        where
          on : (b : Bool) → has_call x is ≡ true → (b || has_call x is) ≡ true
          on true k = refl
          on false k = k
