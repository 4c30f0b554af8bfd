-- Entries that begin with their allocas.
use Rattle.std.proofs.Common.{◌≡◌, ℕ, zero, suc, ◌+◌, ◌<◌, Bool, true, false, List, [], ◌∷◌, ◌++◌, length, refl, sym}
use Rattle.std.proofs.Common.{ap, ◌∙◌, subst, arith, Option, Some, None}
use Rattle.std.proofs.lemmas.Bool.{false≢true}
use Rattle.std.specs.Prelude.{option_and_then, option_map, slice_get, unwrap_or, if◌then◌else◌}
use Rattle.frame_layout.specs.declared.layout.Layout.{Layout}
use Rattle.ir_base.specs.declared.name.Name.{Name}
use Rattle.ir_base.specs.declared.outcome.Place.{Place}
use Rattle.ir_model.specs.Calls.{first_result}
use Rattle.ir_model.specs.declared.instr.Instr.{Instr}
use Rattle.ir_model.specs.declared.module.Block.{Block}
use Rattle.ir_model.specs.declared.module.Function.{Function}
use Rattle.ir_model.specs.declared.module.Module.{Module}
use Rattle.ir_model.specs.declared.operand.Callee.{Callee}
use Rattle.ir_model.specs.declared.operand.Intrinsic.{Intrinsic}
use Rattle.pass_elide.proofs.Unchanged.{by-truth, pick, pick-other}
use Rattle.pass_elide.specs.Elided.{behind, block_frames, blocks_frames, coroutine_frame, elided_block}
use Rattle.pass_elide.specs.Elided.{elided_blocks, elided_by, elided_function, elided_instrs, function_frames}
use Rattle.pass_elide.specs.Elided.{given_call, instr_frames, frame_allocas, frame_in, frames_by, with_front}
use Rattle.pass_elide.specs.Laws.{AreAllocasFirst, BeginsWithAllocas}
use Rattle.pass_elide.specs.Frames.{callee_fields, field_named, layout_of, result_name, frame_at, site_frame}
use Rattle.pass_elide.specs.declared.fields.CalleeField.{CalleeField}
use Rattle.pass_elide.specs.declared.given.GivenFrame.{GivenFrame}
use Rattle.run_step.specs.Effects.{is_alloca}

-- ---- allocas first, as a test

-- none of these is an alloca
abbrev none : List Instr → Bool
none [] = true
none (i ∷ is) = if is_alloca i then false else none is

abbrev first : List Instr → Bool
first [] = true
first (i ∷ is) = if is_alloca i then first is else none is

none-next : (b rest : Bool) → (if b then false else rest) ≡ true → (b ≡ false) × (rest ≡ true)
none-next true rest h = absurd (false≢true h)
none-next false rest h = (refl, h)

by-first : {A : Type 0} (b all rest : Bool) → (if b then all else rest) ≡ true → (b ≡ true → all ≡ true → A) → (b ≡ false → rest ≡ true → A) → A
by-first true all rest h f g = f refl h
by-first false all rest h f g = g refl h

none-at : (is : List Instr) (k : ℕ) (x : Instr) → none is ≡ true → slice_get is k ≡ Some x → is_alloca x ≡ false
none-at [] k x h e = absurd cc
none-at (i ∷ is) zero x h e = let same : x ≡ i = cc in ap is_alloca same ∙ (none-next (is_alloca i) (none is) h).0
none-at (i ∷ is) (suc k) x h e = none-at is k x (none-next (is_alloca i) (none is) h).1 e

none-by : (is : List Instr) → ((k : ℕ) (x : Instr) → slice_get is k ≡ Some x → is_alloca x ≡ false) → none is ≡ true
none-by [] h = refl
none-by (y ∷ is) h = pick-other (is_alloca y) false (none is) (h 0 y refl) ∙ none-by is (λ k x e. h (suc k) x e)

first-none : (is : List Instr) → none is ≡ true → first is ≡ true
first-none [] h = refl
first-none (i ∷ is) h =
    let split = none-next (is_alloca i) (none is) h in
    pick-other (is_alloca i) (first is) (none is) split.0 ∙ split.1

-- an alloca behind others that are none isn't there
no-alloca : (is : List Instr) (k : ℕ) (x : Instr) → none is ≡ true → slice_get is k ≡ Some x → is_alloca x ≡ true → ⊥
no-alloca is k x h e a = false≢true (sym (none-at is k x h e) ∙ a)

all-first : (is : List Instr) → first is ≡ true → (j k : ℕ) (i x : Instr) → slice_get is j ≡ Some i → slice_get is k ≡ Some x
    → is_alloca x ≡ true → j < k → is_alloca i ≡ true
all-first [] h j k i x d e a lt = absurd cc
all-first (y ∷ is) h j zero i x d e a lt = absurd (omega (arith, lt))
all-first (y ∷ is) h zero (suc k) i x d e a lt =
    let same : i ≡ y = cc in
    by-first (is_alloca y) (first is) (none is) h (λ b f. ap is_alloca same ∙ b) (λ b n. absurd (no-alloca is k x n e a))
all-first (y ∷ is) h (suc j) (suc k) i x d e a lt =
    by-first (is_alloca y) (first is) (none is) h
    (λ b f. all-first is f j k i x d e a (omega (arith, lt)))
    (λ b n. absurd (no-alloca is k x n e a))

not-true : (b : Bool) → (b ≡ true → ⊥) → b ≡ false
not-true true h = absurd (h refl)
not-true false h = refl

first-by : (is : List Instr) → ((j k : ℕ) (i x : Instr) → slice_get is j ≡ Some i → slice_get is k ≡ Some x → is_alloca x ≡ true → j < k → is_alloca i ≡ true)
    → first is ≡ true
first-by [] h = refl
first-by (y ∷ is) h =
    by-truth (is_alloca y)
    (λ e. pick (is_alloca y) (first is) (none is) e ∙ first-by is (λ j k i x d c a lt. h (suc j) (suc k) i x d c a (omega (arith, lt))))
    (λ e. pick-other (is_alloca y) (first is) (none is) e
    ∙ none-by is (λ k x c. not-true (is_alloca x) (λ a. false≢true (sym e ∙ h 0 (suc k) y x refl c a (omega arith)))))

-- ---- instructions with their calls turned

given-alloca : (n : ℕ) (i : Instr) → is_alloca (given_call n i) ≡ is_alloca i
given-alloca n (Instr.Call result must_tail ty (Callee.Named g) args) = refl
given-alloca n i = refl

one-none : (n : ℕ) (r : Option GivenFrame) (i : Instr) (rest : List Instr) → is_alloca i ≡ false → none rest ≡ true → none (elided_by n r i ++ rest) ≡ true
one-none n None i rest e h = pick-other (is_alloca i) false (none rest) e ∙ h
one-none n (Some (GivenFrame.Alloca size align)) i rest e h = pick-other (is_alloca (given_call n i)) false (none rest) (given-alloca n i ∙ e) ∙ h
one-none n (Some (GivenFrame.Field base distance)) i rest e h = pick-other (is_alloca (given_call n i)) false (none rest) (given-alloca n i ∙ e) ∙ h

elided-none : (frame : ℕ → Instr → Option GivenFrame) (at n : ℕ) (is : List Instr) → none is ≡ true → none (elided_instrs frame at n is) ≡ true
elided-none frame at n [] h = refl
elided-none frame at n (i ∷ is) h =
    let split = none-next (is_alloca i) (none is) h in
    one-none n (frame at i) i _ split.0 (elided-none frame (at + 1) (length (frames_by (frame at i)) + n) is split.1)

elided-first : (frame : ℕ → Instr → Option GivenFrame) (at n : ℕ) (is : List Instr) → ((at : ℕ) (i : Instr) → is_alloca i ≡ true → frame at i ≡ None)
    → first is ≡ true → first (elided_instrs frame at n is) ≡ true
elided-first frame at n [] calm h = refl
elided-first frame at n (i ∷ is) calm h =
    by-first (is_alloca i) (first is) (none is) h
    (λ a f. ap (λ (r : Option GivenFrame). first (elided_by n r i ++ elided_instrs frame (at + 1) (length (frames_by r) + n) is)) (calm at i a)
    ∙ pick (is_alloca i) (first (elided_instrs frame (at + 1) (0 + n) is)) (none (elided_instrs frame (at + 1) (0 + n) is)) a
    ∙ elided-first frame (at + 1) (0 + n) is calm f)
    (λ a o. first-none (elided_instrs frame at n (i ∷ is)) (elided-none frame at n (i ∷ is) (pick-other (is_alloca i) false (none is) a ∙ o)))

-- ---- frames in fields

abbrev are_fields : List GivenFrame → Bool
are_fields [] = true
are_fields (GivenFrame.Alloca size align ∷ rs) = false
are_fields (GivenFrame.Field base distance ∷ rs) = are_fields rs

both-fields : (rs qs : List GivenFrame) → are_fields rs ≡ true → are_fields qs ≡ true → are_fields (rs ++ qs) ≡ true
both-fields [] qs h g = g
both-fields (GivenFrame.Alloca size align ∷ rs) qs h g = absurd (false≢true h)
both-fields (GivenFrame.Field base distance ∷ rs) qs h g = both-fields rs qs h g

no-allocas : (n : ℕ) (rs : List GivenFrame) → are_fields rs ≡ true → frame_allocas n rs ≡ []
no-allocas n [] h = refl
no-allocas n (GivenFrame.Alloca size align ∷ rs) h = absurd (false≢true h)
no-allocas n (GivenFrame.Field base distance ∷ rs) h = no-allocas (n + 1) rs h

field-by : (begin : ℕ) (o : Option CalleeField) → are_fields (frames_by (option_map (frame_at begin) o)) ≡ true
field-by begin None = refl
field-by begin (Some y) = refl

instr-fields : (frame : ℕ → Instr → Option GivenFrame) (at : ℕ) (is : List Instr) → ((at : ℕ) (i : Instr) → are_fields (frames_by (frame at i)) ≡ true)
    → are_fields (instr_frames frame at is) ≡ true
instr-fields frame at [] h = refl
instr-fields frame at (i ∷ is) h = both-fields (frames_by (frame at i)) (instr_frames frame (at + 1) is) (h at i) (instr-fields frame (at + 1) is h)

block-fields : (frame : ℕ → ℕ → Instr → Option GivenFrame) (at : ℕ) (bs : List Block) → ((block at : ℕ) (i : Instr) → are_fields (frames_by (frame block at i)) ≡ true)
    → are_fields (blocks_frames frame at bs) ≡ true
block-fields frame at [] h = refl
block-fields frame at (b ∷ bs) h =
    both-fields (block_frames frame at b) (blocks_frames frame (at + 1) bs) (instr-fields (frame at) (length b.phis) b.instrs (h at)) (block-fields frame (at + 1) bs h)

-- an alloca has no frame in a field
named-by : (begin : ℕ) (fields : List CalleeField) (o : Option Name) → o ≡ None → option_map (frame_at begin) (option_and_then (field_named fields) o) ≡ None
named-by begin fields o e = ap (λ (p : Option Name). option_map (frame_at begin) (option_and_then (field_named fields) p)) e

no-name : (names : List Name) (i : Instr) → is_alloca i ≡ true → result_name names i ≡ None
no-name names (Instr.Alloca v ty align) e = refl
no-name names i e = absurd (false≢true e)

-- ---- the entry

entry-by : (front : List Instr) (b c : Block) (bs : List Block) → front ≡ [] → slice_get (with_front front (b ∷ bs)) 0 ≡ Some c → first b.instrs ≡ true → first c.instrs ≡ true
entry-by front b c bs e h f =
    let seen : Some (behind front b) ≡ Some c = h in
    let same : c ≡ behind front b = cc in
    ap (λ (d : Block). first d.instrs) same ∙ ap (λ (is : List Instr). first (is ++ b.instrs)) e ∙ f

entry-of : (frame : ℕ → ℕ → Instr → Option GivenFrame) (n : ℕ) (front : List Instr) (bs : List Block) (c : Block) → front ≡ []
    → ((at : ℕ) (i : Instr) → is_alloca i ≡ true → frame 0 at i ≡ None) → slice_get (with_front front (elided_blocks frame 0 n bs)) 0 ≡ Some c
    → ((b : Block) → slice_get bs 0 ≡ Some b → AreAllocasFirst b.instrs) → first c.instrs ≡ true
entry-of frame n front [] c empty calm e g = absurd cc
entry-of frame n front (b ∷ bs) c empty calm e g =
    entry-by front (elided_block frame 0 n b) c (elided_blocks frame 1 (length (block_frames frame 0 b) + n) bs) empty e
    (elided-first (frame 0) (length b.phis) n b.instrs calm (first-by b.instrs (g b refl).first))

entry-first : (frame : ℕ → ℕ → Instr → Option GivenFrame) (f : Function) → ((block at : ℕ) (i : Instr) → are_fields (frames_by (frame block at i)) ≡ true)
    → ((at : ℕ) (i : Instr) → is_alloca i ≡ true → frame 0 at i ≡ None) → BeginsWithAllocas f → BeginsWithAllocas (elided_function frame f)
entry-first frame f fields calm h =
    let n : ℕ = length f.names in
    let front : List Instr = frame_allocas n (function_frames frame f) in
    let empty : front ≡ [] = no-allocas n (function_frames frame f) (block-fields frame 0 f.blocks fields) in
    record { entry = λ c e. record { first = all-first c.instrs (entry-of frame n front f.blocks c empty calm e h.entry) } }

pub coroutine-first : (m : Module) (ls : List Layout) (sites : List Place) (func : ℕ) (f : Function) → f.coroutine ≡ true → BeginsWithAllocas f
    → BeginsWithAllocas (elided_function (frame_in m ls sites func f) f)
coroutine-first m ls sites func f coroutine h =
    subst (λ (frame : ℕ → ℕ → Instr → Option GivenFrame). BeginsWithAllocas (elided_function frame f))
    (sym (pick f.coroutine (coroutine_frame (layout_of ls func) f) (site_frame m ls sites func) coroutine))
    (entry-first (coroutine_frame (layout_of ls func) f) f
    (λ block at i. field-by (unwrap_or (first_result Intrinsic.CoroBegin f) 0) (option_and_then (field_named (callee_fields (layout_of ls func))) (result_name f.names i)))
    (λ at i a. named-by (unwrap_or (first_result Intrinsic.CoroBegin f) 0) (callee_fields (layout_of ls func)) (result_name f.names i) (no-name f.names i a)) h)
