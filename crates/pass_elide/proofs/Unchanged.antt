-- Functions and modules that stay as they were.
use Rattle.std.proofs.Common.{◌≡◌, ℕ, zero, suc, ◌+◌, Bool, true, false, cond, List, [], ◌∷◌, ◌++◌, length, map}
use Rattle.std.proofs.Common.{refl, sym, ap, ◌∙◌, arith, Option, Some, None}
use Rattle.std.proofs.lemmas.List.{append-nil}
use Rattle.std.proofs.lemmas.Bool.{false≢true}
use Rattle.std.specs.Prelude.{codes, find, option_and_then, option_map, slice_get, unwrap_or, if◌then◌else◌, ◌==◌}
use Rattle.frame_layout.specs.declared.layout.Layout.{Layout}
use Rattle.frame_layout.specs.declared.layout.Layouts.{Layouts}
use Rattle.ir_base.specs.declared.name.Name.{Name}
use Rattle.ir_base.specs.declared.outcome.Place.{Place}
use Rattle.ir_model.specs.Calls.{first_result}
use Rattle.ir_model.specs.declared.instr.Instr.{Instr}
use Rattle.ir_model.specs.declared.module.Block.{Block}
use Rattle.ir_model.specs.declared.module.Function.{Function}
use Rattle.ir_model.specs.declared.module.Module.{Module}
use Rattle.ir_model.specs.declared.operand.Intrinsic.{Intrinsic}
use Rattle.pass_elide.specs.Elided.{block_frames, blocks_frames, coroutine_frame, elided_all, elided_block, elided_blocks}
use Rattle.pass_elide.specs.Elided.{elided_by, elided_function, elided_functions, elided_instrs, elided_module}
use Rattle.pass_elide.specs.Elided.{function_frames, instr_frames, frame_allocas, frame_in, frames_by, with_front}
use Rattle.pass_elide.specs.Laws.{HasNoSite, HaveNoCallees}
use Rattle.pass_elide.specs.Frames.{callee_fields, callee_layout, field_named, field_frame, layout_of, result_name}
use Rattle.pass_elide.specs.Frames.{frame_at, frame_of, site_frame}
use Rattle.pass_elide.specs.Places.{is_site}
use Rattle.pass_elide.specs.declared.fields.CalleeField.{CalleeField}
use Rattle.pass_elide.specs.declared.given.GivenFrame.{GivenFrame}
use Rattle.pass_fetch.specs.Blocks.{numbered_names}

-- ---- lists of frames that are empty

no-first : (xs ys : List GivenFrame) → xs ++ ys ≡ [] → xs ≡ []
no-first [] ys e = refl
no-first (x ∷ xs) ys e = absurd cc

no-second : (xs ys : List GivenFrame) → xs ++ ys ≡ [] → ys ≡ []
no-second [] ys e = e
no-second (x ∷ xs) ys e = absurd cc

instr-stays : (n : ℕ) (r : Option GivenFrame) (i : Instr) → frames_by r ≡ [] → elided_by n r i ≡ i ∷ []
instr-stays n None i e = refl
instr-stays n (Some r) i e = absurd cc

instrs-stay : (frame : ℕ → Instr → Option GivenFrame) (at n : ℕ) (is : List Instr) → instr_frames frame at is ≡ [] → elided_instrs frame at n is ≡ is
instrs-stay frame at n [] e = refl
instrs-stay frame at n (i ∷ is) e =
    ap (λ (xs : List Instr). xs ++ elided_instrs frame (at + 1) (length (frames_by (frame at i)) + n) is) (instr-stays n (frame at i) i (no-first (frames_by (frame at i)) (instr_frames frame (at + 1) is) e))
    ∙ ap (λ (xs : List Instr). i ∷ xs) (instrs-stay frame (at + 1) (length (frames_by (frame at i)) + n) is (no-second (frames_by (frame at i)) (instr_frames frame (at + 1) is) e))

block-stays : (frame : ℕ → ℕ → Instr → Option GivenFrame) (at n : ℕ) (b : Block) → block_frames frame at b ≡ [] → elided_block frame at n b ≡ b
block-stays frame at n b e =
    ap (λ (is : List Instr). record { label = b.label; phis = b.phis; instrs = is; term = b.term }) (instrs-stay (frame at) (length b.phis) n b.instrs e)

blocks-stay : (frame : ℕ → ℕ → Instr → Option GivenFrame) (at n : ℕ) (bs : List Block) → blocks_frames frame at bs ≡ [] → elided_blocks frame at n bs ≡ bs
blocks-stay frame at n [] e = refl
blocks-stay frame at n (b ∷ bs) e =
    ap (λ (c : Block). c ∷ elided_blocks frame (at + 1) (length (block_frames frame at b) + n) bs) (block-stays frame at n b (no-first (block_frames frame at b) (blocks_frames frame (at + 1) bs) e))
    ∙ ap (λ (cs : List Block). b ∷ cs) (blocks-stay frame (at + 1) (length (block_frames frame at b) + n) bs (no-second (block_frames frame at b) (blocks_frames frame (at + 1) bs) e))

no-front : (bs : List Block) → with_front [] bs ≡ bs
no-front [] = refl
no-front (b ∷ bs) = refl

pub function-stays : (frame : ℕ → ℕ → Instr → Option GivenFrame) (f : Function) → function_frames frame f ≡ [] → elided_function frame f ≡ f
function-stays frame f e =
    let n : ℕ = length f.names in
    let blocks : elided_all frame n f.blocks ≡ f.blocks =
    ap (λ (rs : List GivenFrame). with_front (frame_allocas n rs) (elided_blocks frame 0 n f.blocks)) e
    ∙ no-front (elided_blocks frame 0 n f.blocks)
    ∙ blocks-stay frame 0 n f.blocks e in
    let names : f.names ++ numbered_names (codes "$c.callee.") (length (function_frames frame f)) ≡ f.names =
    ap (λ (rs : List GivenFrame). f.names ++ numbered_names (codes "$c.callee.") (length rs)) e ∙ append-nil f.names in
    ap (λ (bs : List Block). record f { blocks = bs; names = f.names ++ numbered_names (codes "$c.callee.") (length (function_frames frame f)) }) blocks
    ∙ ap (λ (ns : List Name). record f { names = ns }) names

-- ---- functions in which nothing has a frame

no-instr-frames : (frame : ℕ → Instr → Option GivenFrame) (at : ℕ) (is : List Instr) → ((at : ℕ) (i : Instr) → frame at i ≡ None) → instr_frames frame at is ≡ []
no-instr-frames frame at [] none = refl
no-instr-frames frame at (i ∷ is) none =
    ap (λ (r : Option GivenFrame). frames_by r ++ instr_frames frame (at + 1) is) (none at i) ∙ no-instr-frames frame (at + 1) is none

no-frames : (frame : ℕ → ℕ → Instr → Option GivenFrame) (at : ℕ) (bs : List Block) → ((block at : ℕ) (i : Instr) → frame block at i ≡ None) → blocks_frames frame at bs ≡ []
no-frames frame at [] none = refl
no-frames frame at (b ∷ bs) none =
    ap (λ (rs : List GivenFrame). rs ++ blocks_frames frame (at + 1) bs) (no-instr-frames (frame at) (length b.phis) b.instrs (none at)) ∙ no-frames frame (at + 1) bs none

if-none : {A : Type 0} (b : Bool) (o : Option A) → b ≡ false → (if b then o else None) ≡ None
if-none true o e = absurd (false≢true (sym e))
if-none false o e = refl

no-site : (m : Module) (ls : List Layout) (sites : List Place) (func : ℕ) → HasNoSite sites func → (block at : ℕ) (i : Instr) → site_frame m ls sites func block at i ≡ None
no-site m ls sites func h block at i =
    if-none (is_site sites (record { func = func; block = block; at = at })) (option_map frame_of (callee_layout m ls i)) (h.none block at)

pub pick : {A : Type 0} (b : Bool) (x y : A) → b ≡ true → (if b then x else y) ≡ x
pick true x y e = refl
pick false x y e = absurd (false≢true e)

pub pick-other : {A : Type 0} (b : Bool) (x y : A) → b ≡ false → (if b then x else y) ≡ y
pick-other true x y e = absurd (false≢true (sym e))
pick-other false x y e = refl

pub no-sites : (m : Module) (ls : List Layout) (sites : List Place) (func : ℕ) (f : Function) → f.coroutine ≡ false → HasNoSite sites func
    → elided_function (frame_in m ls sites func f) f ≡ f
no-sites m ls sites func f plain h =
    ap (λ (frame : ℕ → ℕ → Instr → Option GivenFrame). elided_function frame f) (pick-other f.coroutine (coroutine_frame (layout_of ls func) f) (site_frame m ls sites func) plain)
    ∙ function-stays (site_frame m ls sites func) f (no-frames (site_frame m ls sites func) 0 f.blocks (no-site m ls sites func h))

found-in-none : (o : Option Name) → option_and_then (field_named []) o ≡ None
found-in-none None = refl
found-in-none (Some n) = refl

no-field : (begin : ℕ) (names : List Name) (i : Instr) → field_frame begin [] names i ≡ None
no-field begin names i = ap (λ (o : Option CalleeField). option_map (frame_at begin) o) (found-in-none (result_name names i))

no-field-by : (begin : ℕ) (fields : List CalleeField) (names : List Name) (i : Instr) → fields ≡ [] → field_frame begin fields names i ≡ None
no-field-by begin fields names i e = ap (λ (ys : List CalleeField). field_frame begin ys names i) e ∙ no-field begin names i

pub no-callees : (m : Module) (ls : List Layout) (sites : List Place) (func : ℕ) (f : Function) → f.coroutine ≡ true → callee_fields (layout_of ls func) ≡ []
    → elided_function (frame_in m ls sites func f) f ≡ f
no-callees m ls sites func f coroutine h =
    ap (λ (frame : ℕ → ℕ → Instr → Option GivenFrame). elided_function frame f) (pick f.coroutine (coroutine_frame (layout_of ls func) f) (site_frame m ls sites func) coroutine)
    ∙ function-stays (coroutine_frame (layout_of ls func) f) f (no-frames (coroutine_frame (layout_of ls func) f) 0 f.blocks (λ block at i. no-field-by (unwrap_or (first_result Intrinsic.CoroBegin f) 0) (callee_fields (layout_of ls func)) f.names i h))

-- ---- modules

none-either : (b : Bool) (l : Layout) (o : Option Layout) → callee_fields (Some l) ≡ [] → callee_fields o ≡ [] → callee_fields (cond b (Some l) o) ≡ []
none-either true l o h g = h
none-either false l o h g = g

none-found : (test : Layout → Bool) (ls : List Layout) → ((k : ℕ) (l : Layout) → slice_get ls k ≡ Some l → callee_fields (Some l) ≡ []) → callee_fields (find test ls) ≡ []
none-found test [] h = refl
none-found test (l ∷ ls) h = none-either (test l) l (find test ls) (h 0 l refl) (none-found test ls (λ k x e. h (suc k) x e))

-- by whether it holds
pub by-truth : {A : Type 0} (b : Bool) → (b ≡ true → A) → (b ≡ false → A) → A
by-truth true f g = f refl
by-truth false f g = g refl

no-site-at-all : (func : ℕ) → HasNoSite [] func
no-site-at-all func = record { none = λ block at. refl }

one-stays : (m : Module) (ls : List Layout) (func : ℕ) (f : Function) → HaveNoCallees ls → elided_function (frame_in m ls [] func f) f ≡ f
one-stays m ls func f h =
    by-truth f.coroutine
    (λ e. no-callees m ls [] func f e (none-found (λ l. l.coroutine == func) ls h.none))
    (λ e. no-sites m ls [] func f e (no-site-at-all func))

all-stay : (m : Module) (ls : List Layout) (func : ℕ) (fs : List Function) → HaveNoCallees ls → elided_functions m ls [] func fs ≡ fs
all-stay m ls func [] h = refl
all-stay m ls func (f ∷ fs) h =
    ap (λ (g : Function). g ∷ elided_functions m ls [] (func + 1) fs) (one-stays m ls func f h) ∙ ap (λ (gs : List Function). f ∷ gs) (all-stay m ls (func + 1) fs h)

pub nothing : (layouts : Layouts) (m : Module) → HaveNoCallees layouts.coroutines → elided_module layouts [] m ≡ m
nothing layouts m h =
    ap (λ (fs : List Function). record { types = m.types; globals = m.globals; declarations = m.declarations; functions = fs }) (all-stay m layouts.coroutines 0 m.functions h)

-- ---- functions at their positions

at-position : (m : Module) (ls : List Layout) (sites : List Place) (func : ℕ) (fs : List Function) (k : ℕ)
    → slice_get (elided_functions m ls sites func fs) k ≡ option_map (λ f. elided_function (frame_in m ls sites (func + k) f) f) (slice_get fs k)
at-position m ls sites func [] k = refl
at-position m ls sites func (f ∷ fs) zero =
    let e : func ≡ func + 0 = omega arith in
    ap (λ (j : ℕ). Some (elided_function (frame_in m ls sites j f) f)) e
at-position m ls sites func (f ∷ fs) (suc k) =
    let e : (func + 1) + k ≡ func + suc k = omega arith in
    at-position m ls sites (func + 1) fs k ∙ ap (λ (j : ℕ). option_map (λ (g : Function). elided_function (frame_in m ls sites j g) g) (slice_get fs k)) e

pub become : (layouts : Layouts) (sites : List Place) (m : Module) (k : ℕ)
    → slice_get (elided_module layouts sites m).functions k ≡ option_map (λ f. elided_function (frame_in m layouts.coroutines sites k f) f) (slice_get m.functions k)
become layouts sites m k =
    let e : 0 + k ≡ k = omega arith in
    at-position m layouts.coroutines sites 0 m.functions k
    ∙ ap (λ (j : ℕ). option_map (λ (f : Function). elided_function (frame_in m layouts.coroutines sites j f) f) (slice_get m.functions k)) e

as-many : (m : Module) (ls : List Layout) (sites : List Place) (func : ℕ) (fs : List Function) → length (elided_functions m ls sites func fs) ≡ length fs
as-many m ls sites func [] = refl
as-many m ls sites func (f ∷ fs) = ap suc (as-many m ls sites (func + 1) fs)

pub many : (layouts : Layouts) (sites : List Place) (m : Module) → length (elided_module layouts sites m).functions ≡ length m.functions
many layouts sites m = as-many m layouts.coroutines sites 0 m.functions

names-stay : (m : Module) (ls : List Layout) (sites : List Place) (func : ℕ) (fs : List Function) → map (λ f. f.name) (elided_functions m ls sites func fs) ≡ map (λ f. f.name) fs
names-stay m ls sites func [] = refl
names-stay m ls sites func (f ∷ fs) = ap (λ (ns : List Name). f.name ∷ ns) (names-stay m ls sites (func + 1) fs)

pub same-names : (layouts : Layouts) (sites : List Place) (m : Module) → map (λ f. f.name) (elided_module layouts sites m).functions ≡ map (λ f. f.name) m.functions
same-names layouts sites m = names-stay m layouts.coroutines sites 0 m.functions
