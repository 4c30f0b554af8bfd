-- Framed forms of accepted sources are built by what their coroutines were framed by.
use Rattle.std.proofs.Common.{◌≡◌, ⊎_elim, ℕ, zero, suc, ◌+◌, ◌-◌, ◌<◌, ◌≤◌, Bool, true, false, List, [], ◌∷◌, ◌++◌, drop, length, refl, sym, ap, ◌∙◌, subst, arith}
use Rattle.std.proofs.lemmas.Bool.{cases_lt, false≢true}
use Rattle.std.proofs.lemmas.List.{length-map}
use Rattle.std.proofs.lemmas.Option.{slice_get_within}
use Rattle.std.specs.Prelude.{ℤ, None, Option, Some, if◌then◌else◌, slice_get, unwrap_or, ◌==◌}
use Rattle.compiler.proofs.whole.lowered_sources.Coroutines.{framed_well}
use Rattle.compiler_theorem.proofs.kinds.Unmarked.{form_unmarked}
use Rattle.compiler_theorem.proofs.parts.Found.{found_in_order}
use Rattle.compiler_theorem.proofs.parts.Returned.{buildable, named}
use Rattle.compiler_theorem.proofs.theorem.Facts.{good_layouts}
use Rattle.compiler_theorem.specs.theorem.Built.{building, framing_in}
use Rattle.compiler_theorem.specs.theorem.Lowered.{IsLowered, Lowered, early}
use Rattle.compiler.specs.frame_layout.declared.layout.Layout.{Layout}
use Rattle.compiler.proofs.ir_laws.facts.Lists.{get_behind, get_front, one_longer}
use Rattle.compiler.proofs.ir_laws.facts.Truth.{itself, not_both, other_number}
use Rattle.compiler.specs.ir_laws.facts.same_names.Same.{naming}
use Rattle.compiler.specs.ir_model.Names.{function_at, no_function}
use Rattle.compiler.specs.ir_model.declared.module.Function.{Function}
use Rattle.compiler.specs.ir_model.declared.module.Module.{Module}
use Rattle.compiler.specs.pass_edges.EdgeBlocks.{with_edge_blocks}
use Rattle.compiler.specs.run_step.Step.{has_markers}
use Rattle.compiler.specs.pass_frames.Framed.{AreFramed, Coroutine, IsFramedCoroutine, NoneYet, Other, layout_at}
use Rattle.pass_frames_meaning.proofs.pass_frames_proof.framings.Built.{framing_there}
use Rattle.pass_frames_meaning.specs.pass_frames_proof.Framings.{IsFraming}
use Rattle.pass_frames_meaning.specs.pass_frames_proof.Places.{Framing, framed, framing_of}
use Rattle.pass_frames_meaning.specs.pass_frames_proof.Related.{AreBuilt, Building, IsBuiltBy}
use Rattle.compiler.proofs.pass_proofs.frames.headings.Headings.{framed_names}
use Rattle.compiler.proofs.pass_proofs.frames.numbers.Numbers.{number_given}
use Rattle.compiler.proofs.pass_proofs.frames.unnamed.Positions.{Becomes, FramedBy, Unchanged, stands_as}
use Rattle.compiler.specs.ir_laws.paths.woven_rules.Pairs.{AreDifferent}
use Rattle.compiler.proofs.pass_proofs.edges.calls.Edges.{edges_shaped}
use Rattle.compiler.specs.rule_laws.frames.replaced.Splittable.{tokens_taken}
use Rattle.compiler.specs.pass_split.Parts.{first_layout, layouts_after, other_layouts}
use Rattle.pass_split_proof.proofs.ready.Layouts.{layouts_found}
use Rattle.pass_split_proof.specs.code.Positions.{layouts_from}
use Rattle.compiler.specs.rule_laws.rules.function_rules.Kept.{KeepsFunctionRules}

-- ---- layouts that are left

left_before : (fs : List Function) (f : Function) (ls : List Layout) (k : ℕ) → k ≤ length fs
    → layouts_from ls (fs ++ f ∷ []) k ≡ layouts_from ls fs k
left_before [] f ls zero le = refl
left_before [] f ls (suc k) le = absurd (omega (arith, le))
left_before (g ∷ fs) f ls zero le = refl
left_before (g ∷ fs) f ls (suc k) le = left_before fs f (layouts_after g ls) k (omega (arith, le))

left_behind : (fs : List Function) (f : Function) (ls : List Layout)
    → layouts_from ls (fs ++ f ∷ []) (suc (length fs)) ≡ layouts_after f (layouts_from ls fs (length fs))
left_behind [] f ls = refl
left_behind (g ∷ fs) f ls = left_behind fs f (layouts_after g ls)

none : (n : ℕ) → [] ≡ drop {A = Layout} n []
none zero = refl
none (suc n) = refl

one_less : (c : ℕ) (ls : List Layout) → other_layouts (drop c ls) ≡ drop (c + 1) ls
one_less zero [] = none (0 + 1)
one_less zero (l ∷ ls) = refl
one_less (suc c) [] = none (suc c + 1)
one_less (suc c) (l ∷ ls) =
    let same : suc (c + 1) ≡ suc c + 1 = omega arith in
    one_less c ls ∙ ap (λ (n : ℕ). drop n (l ∷ ls)) same

first_left : (c : ℕ) (ls : List Layout) → first_layout (drop c ls) ≡ layout_at ls c
first_left zero [] = refl
first_left zero (l ∷ ls) = refl
first_left (suc c) [] = refl
first_left (suc c) (l ∷ ls) = first_left c ls

module _ (m : Module) (ls : List Layout) where
  -- so many are taken by the coroutines passed
  left : (c : ℕ) (fs gs : List Function) → AreFramed m ls c fs gs → layouts_from ls fs (length fs) ≡ drop c ls
  left _ _ _ NoneYet = refl
  left _ _ _ (Other c f fs gs rest plain) =
      ap (layouts_from ls (fs ++ f ∷ [])) (one_longer fs f) ∙ left_behind fs f ls
      ∙ ap (λ (b : Bool). if b then other_layouts (layouts_from ls fs (length fs))
      else layouts_from ls fs (length fs)) plain
      ∙ left c fs gs rest
  left _ _ _ (Coroutine c f g fs gs rest coroutine is) =
      ap (layouts_from ls (fs ++ f ∷ [])) (one_longer fs f) ∙ left_behind fs f ls
      ∙ ap (λ (b : Bool). if b then other_layouts (layouts_from ls fs (length fs))
      else layouts_from ls fs (length fs)) coroutine
      ∙ ap other_layouts (left c fs gs rest) ∙ one_less c ls

  -- ---- one function more

  lengths : (c : ℕ) (fs gs : List Function) → AreFramed m ls c fs gs → length gs ≡ length fs
  lengths _ _ _ NoneYet = refl
  lengths _ _ _ (Other c f fs gs rest plain) = one_longer gs f ∙ ap suc (lengths c fs gs rest) ∙ sym (one_longer fs f)
  lengths _ _ _ (Coroutine c f g fs gs rest coroutine is) =
      one_longer gs g ∙ ap suc (lengths c fs gs rest) ∙ sym (one_longer fs f)

  -- the framed form of the coroutine at a position
  pub record IsFramedAt (fs gs : List Function) (k : ℕ) (f : Function) (x : Framing) : Type 0 where
    pub other : Function
    pub there : slice_get gs k ≡ Some other
    pub taken : ℕ
    pub is : IsFramedCoroutine m (layout_at ls taken) f other
    pub same : x ≡ framing_of m (layout_at ls taken) f other is
    pub layout : layout_at ls taken ≡ first_layout (layouts_from ls fs k)

  -- before the last one, or the last one
  data IsAt (fs : List Function) (f : Function) (k : ℕ) (g : Function) : Type 0 where
    Before : k < length fs → slice_get fs k ≡ Some g → IsAt fs f k g
    Last : k ≡ length fs → f ≡ g → IsAt fs f k g

  where_at : (fs : List Function) (f : Function) (k : ℕ) (g : Function) → slice_get (fs ++ f ∷ []) k ≡ Some g
      → IsAt fs f k g
  where_at fs f k g e = ⊎_elim
      (λ (lt : k < length fs). Before lt (sym (get_front fs (f ∷ []) k lt) ∙ e))
      (λ (ge : length fs ≤ k).
      let same : length fs + (k - length fs) ≡ k = omega (arith, ge) in
      last (k - length fs) same
      (sym (get_behind fs (f ∷ []) (k - length fs)) ∙ ap (slice_get (fs ++ f ∷ [])) same ∙ e))
      (cases_lt k (length fs))
    where
      last : (d : ℕ) → length fs + d ≡ k → slice_get (f ∷ []) d ≡ Some g → IsAt fs f k g
      last zero same s = Last (omega (arith, same)) (cc)
      last (suc d) same s = absurd (cc)

  further : (fs gs : List Function) (f g : Function) (k : ℕ) (h : Function) (x : Framing) → length gs ≡ length fs
      → k < length fs → IsFramedAt fs gs k h x → IsFramedAt (fs ++ f ∷ []) (gs ++ g ∷ []) k h x
  further fs gs f g k h x same lt y = record {
    other = y.other;
    there = get_front gs (g ∷ []) k (omega (arith, lt, same)) ∙ y.there;
    taken = y.taken;
    is = y.is;
    same = y.same;
    layout = y.layout ∙ sym (ap first_layout (left_before fs f ls k (omega (arith, lt))));
  }

  framed_at : (c : ℕ) (fs gs : List Function) (h : AreFramed m ls c fs gs) (k : ℕ) (f : Function)
      → slice_get fs k ≡ Some f → f.coroutine ≡ true → IsFramedAt fs gs k f (framing_in m ls c fs gs h k)
  framed_at _ _ _ NoneYet k f e c = absurd (cc)
  framed_at _ _ _ (Other n g fs gs rest plain) k f e c = on (λ d. framed_at n fs gs rest k f d c) (where_at fs g k f e)
    where
      on : (slice_get fs k ≡ Some f → IsFramedAt fs gs k f (framing_in m ls n fs gs rest k)) → IsAt fs g k f
          → IsFramedAt (fs ++ g ∷ []) (gs ++ g ∷ []) k f (framing_in m ls n fs gs rest k)
      on again (Before lt there) =
          further fs gs g g k f (framing_in m ls n fs gs rest k) (lengths n fs gs rest) lt (again there)
      on again (Last at same) = absurd (not_both g.coroutine plain (ap (λ (z : Function). z.coroutine) same ∙ c))
  framed_at _ _ _ (Coroutine n g d fs gs rest coroutine is) k f e c =
      on (λ z. framed_at n fs gs rest k f z c) (where_at fs g k f e)
    where
      by : Bool → Framing
      by b = if b then framing_of m (layout_at ls n) g d is else framing_in m ls n fs gs rest k

      on : (slice_get fs k ≡ Some f → IsFramedAt fs gs k f (framing_in m ls n fs gs rest k)) → IsAt fs g k f
          → IsFramedAt (fs ++ g ∷ []) (gs ++ d ∷ []) k f (by (k == length fs))
      on again (Before lt there) =
          subst (λ (b : Bool). IsFramedAt (fs ++ g ∷ []) (gs ++ d ∷ []) k f (by b)) (flip k (length fs) lt)
          (further fs gs g d k f (framing_in m ls n fs gs rest k) (lengths n fs gs rest) lt (again there))
        where
          flip : (a b : ℕ) → a < b → false ≡ (a == b)
          flip a b lt = sym (other_number a b lt)
      on again (Last at same) =
          subst (λ (b : Bool). IsFramedAt (fs ++ g ∷ []) (gs ++ d ∷ []) k f (by b))
          (sym (ap (λ (n : ℕ). n == length fs) at ∙ itself (length fs)))
          (subst (λ (z : Function). IsFramedAt (fs ++ g ∷ []) (gs ++ d ∷ []) k z (by true)) same (record {
            other = d;
            there =
                ap (slice_get (gs ++ d ∷ [])) (at ∙ sym (lengths n fs gs rest) ∙ more (length gs))
                ∙ get_behind gs (d ∷ []) 0;
            taken = n;
            is = is;
            same = refl;
            layout =
                sym (first_left n ls) ∙ ap first_layout (sym (left n fs gs rest))
                ∙ sym (ap first_layout (left_before fs g ls (length fs) (omega arith)))
                ∙ ap (λ (j : ℕ). first_layout (layouts_from ls (fs ++ g ∷ []) j)) (sym at);
          }))
        where
          more : (j : ℕ) → j ≡ j + 0
          more j = omega arith

-- ---- of accepted sources

module _ (l : Lowered) (low : IsLowered l) (answers : List ℤ) where
  abbrev e : Module
  e = early l

  abbrev ls : List Layout
  ls = l.layouts.coroutines

  pub coroutine_there : (func : ℕ) → (function_at (early l) func).coroutine ≡ true
      → slice_get (early l).functions func ≡ Some (function_at (early l) func)
  coroutine_there func c = on (slice_get e.functions func) refl c
    where
      on : (o : Option Function) → slice_get e.functions func ≡ o → (unwrap_or o no_function).coroutine ≡ true
          → o ≡ Some (unwrap_or o no_function)
      on None d k = absurd (false≢true k)
      on (Some f) d k = refl

  abbrev pub built : Building
  built = building l low.is_framed answers

  pub framed_there : (func : ℕ) → (function_at e func).coroutine ≡ true
      → IsFramedAt e ls e.functions l.framed.functions func (function_at e func) (built.framing func)
  framed_there func c =
      framed_at e ls low.is_framed.functions.count e.functions l.framed.functions low.is_framed.functions.framed func
      (function_at e func) (coroutine_there func c) c

  coroutines : (func : ℕ) → (function_at e func).coroutine ≡ true
      → IsBuiltBy (building l low.is_framed answers) func
  coroutines func c =
      let x = framed_there func c in
      record {
        code = ap (λ (y : Framing). y.code) x.same;
        function = ap (λ (y : Framing). y.function) x.same;
        layout =
            ap (λ (y : Framing). y.layout) x.same ∙ x.layout
            ∙ sym (layouts_found ls e.functions (found_in_order e 0 e.functions ls (good_layouts l low)) func
            (function_at e func) (coroutine_there func c) c);
        is =
            ap (λ (o : Option Function). unwrap_or o no_function) x.there ∙ x.is.is
            ∙ ap framed (sym x.same);
      }

  others : (func : ℕ) → (function_at e func).coroutine ≡ false → function_at l.framed func ≡ function_at e func
  others func plain = on (slice_get l.framed.functions func) refl
    where
      became : (f g : Function) → Becomes e ls f g → f.coroutine ≡ false → g ≡ f
      became f _ (Unchanged own) flat = refl
      became f g (FramedBy taken _ own is) flat = absurd (not_both f.coroutine flat own)

      same : length l.framed.functions ≡ length e.functions
      same =
          sym (length-map l.framed.functions naming)
          ∙ ap length (framed_names l.layouts e l.framed low.is_framed).functions ∙ length-map e.functions naming

      none_there : slice_get l.framed.functions func ≡ None → slice_get e.functions func ≡ None
      none_there d = past (slice_get e.functions func) refl
        where
          past : (o : Option Function) → slice_get e.functions func ≡ o → o ≡ None
          past None h = refl
          past (Some f) h =
              let lt = slice_get_within e.functions func f h in
              ⊎_elim (λ (a : func < length l.framed.functions). absurd (within l.framed.functions func a d))
              (λ (b : length l.framed.functions ≤ func). absurd (omega (arith, lt, b, same)))
              (cases_lt func (length l.framed.functions))
            where
              within : (xs : List Function) (k : ℕ) → k < length xs → slice_get xs k ≡ None → ⊥
              within [] k a h = absurd (omega (arith, a))
              within (x ∷ xs) zero a h = absurd (cc)
              within (x ∷ xs) (suc k) a h = within xs k (omega (arith, a)) h

      on : (o : Option Function) → slice_get l.framed.functions func ≡ o
          → unwrap_or (slice_get l.framed.functions func) no_function ≡ function_at e func
      on None d = λ i. unwrap_or ((d ∙ sym (none_there d)) i) no_function
      on (Some g) d =
          let x = stands_as e ls low.is_framed.functions.count e.functions l.framed.functions
          low.is_framed.functions.framed func g d in
          let own : function_at e func ≡ x.source = ap (λ (o : Option Function). unwrap_or o no_function) x.stands in
          ap (λ (o : Option Function). unwrap_or o no_function) d
          ∙ became x.source g x.becomes (sym (ap (λ (f : Function). f.coroutine) own) ∙ plain) ∙ sym own

  -- each framing is one that the rules of frames allow
  pub framings : (func : ℕ) → (function_at e func).coroutine ≡ true → IsFraming (built.framing func)
  framings func c =
      let x = framed_there func c in
      let lay : Layout = layout_at ls x.taken in
      subst IsFraming (sym x.same)
      (framing_there e func lay (function_at e func) x.is.contents x.is.before
      (named l low func (function_at e func) (coroutine_there func c) c lay (number_given ls x.taken)).begin
      (buildable l low func (function_at e func) (coroutine_there func c) c lay (number_given ls x.taken) x.other x.is))

  -- the framed forms break no rule of functions
  pub framed_rules : (func : ℕ) → (function_at e func).coroutine ≡ true
      → KeepsFunctionRules e func (framed (built.framing func))
  framed_rules func c =
      let x = framed_there func c in
      subst (KeepsFunctionRules e func) (x.is.is ∙ ap framed (sym x.same))
      (framed_well l.text l.source low.source.stands low.source.accepted l.share l.layouts low.laid func
      (function_at e func) (coroutine_there func c) c (layout_at ls x.taken) (number_given ls x.taken) x.other
      x.is).kept.rules

  -- each token is taken by one suspend, before and behind
  pub edged_tokens : (func : ℕ) → (function_at e func).coroutine ≡ true
      → AreDifferent (tokens_taken (with_edge_blocks (built.framing func).function))
  edged_tokens func c =
      let x = framed_there func c in
      let lay : Layout = layout_at ls x.taken in
      let begin = (named l low func (function_at e func) (coroutine_there func c) c lay (number_given ls x.taken)).begin in
      let b = buildable l low func (function_at e func) (coroutine_there func c) c lay (number_given ls x.taken) x.other
      x.is in
      subst (λ (y : Framing). AreDifferent (tokens_taken (with_edge_blocks y.function))) (sym x.same)
      (edges_shaped e func (function_at e func) begin b.rules b.coroutine b.calls b.switches b.outside b.window
      b.named).tokens

  pub framed_tokens : (func : ℕ) → (function_at e func).coroutine ≡ true
      → AreDifferent (tokens_taken (framed (built.framing func)))
  framed_tokens func c =
      let x = framed_there func c in
      subst (λ (g : Function). AreDifferent (tokens_taken g)) (x.is.is ∙ ap framed (sym x.same))
      (framed_well l.text l.source low.source.stands low.source.accepted l.share l.layouts low.laid func
      (function_at e func) (coroutine_there func c) c (layout_at ls x.taken) (number_given ls x.taken) x.other
      x.is).kept.shape.tokens

  -- and have no marker of a name that had none
  pub framed_unmarked : (v func : ℕ) → (function_at e func).coroutine ≡ true
      → has_markers (with_edge_blocks (built.framing func).function) v ≡ false
      → has_markers (framed (built.framing func)) v ≡ false
  framed_unmarked v func c none =
      let x = framed_there func c in
      let lay : Layout = layout_at ls x.taken in
      subst (λ (y : Framing). has_markers (with_edge_blocks y.function) v ≡ false → has_markers (framed y) v ≡ false)
      (sym x.same)
      (form_unmarked v e func lay (function_at e func) x.is.contents x.is.before
      (named l low func (function_at e func) (coroutine_there func c) c lay (number_given ls x.taken)).begin
      (buildable l low func (function_at e func) (coroutine_there func c) c lay (number_given ls x.taken) x.other x.is))
      none

  pub sources_built : AreBuilt (building l low.is_framed answers)
  sources_built = record { coroutines = coroutines; others = others }
