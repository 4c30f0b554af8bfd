-- Framed forms of coroutines, and functions one by one.
use Rattle.std.proofs.Common.{◌≡◌, ℕ, ◌+◌, ◌<◌, ◌≤◌, Bool, List, [], ◌∷◌, ◌++◌, length, take, get_or, Option, Result, Ok, Err, refl, sym, subst, ap, ◌∙◌}
use Rattle.std.specs.Prelude.{IfOk, IsTrue, IsFalse}
use Rattle.std.proofs.lemmas.List.{take_all, take_more}
use Rattle.pass_copies.specs.BeginCopies.{with_begin_copies}
use Rattle.frame_contents.specs.Frames.{AreContents}
use Rattle.frame_contents.specs.declared.contents.Contents.{Contents}
use Rattle.pass_edges.specs.EdgeBlocks.{with_edge_blocks}
use Rattle.pass_addresses.specs.Placing.{with_frame_addresses}
use Rattle.frame_layout.specs.declared.layout.Layout.{Layout}
use Rattle.pass_front.specs.Front.{with_front_allocas}
use Rattle.ir_model.specs.declared.module.Function.{Function}
use Rattle.ir_model.specs.declared.module.Module.{Module}
use Rattle.frame_contents.specs.frame_classes.declared.class.SlotClass.{SlotClass}
use Rattle.pass_frames.specs.Framed.{AllFramed, AreBefore, AreFramed, Coroutine, IsFramedCoroutine, IsPushed, NoneYet, Other, begin_block, begin_of, celled, copied, kept_of, layout_at, offsets_of, offsets_with, placed}
use Rattle.pass_frames.specs.Tables.{class_flags, label_flags, sizes_by_name}
use Rattle.pass_cells.specs.Cells.{with_cells}

pub celled_by : {E : Type 0} (m : Module) (f : Function) (c : Contents) (edged : Function) (crossing : List (ℕ × ℕ)) (local : List Bool) (r : Result Function E) → edged ≡ with_edge_blocks f → crossing ≡ c.crossing →
    local ≡ class_flags f c.classes SlotClass.Local → IfOk r (λ g. g ≡ with_cells m edged crossing local) → IfOk r (λ g. g ≡ celled m f c)
unfolding celled
celled_by m f c edged crossing local (Ok g) edged_is crossing_is local_is is =
    is ∙ ap (λ (x : Function). with_cells m x crossing local) edged_is ∙ ap (λ (x : List (ℕ × ℕ)). with_cells m (with_edge_blocks f) x local) crossing_is ∙ ap (λ (x : List Bool). with_cells m (with_edge_blocks f) c.crossing x) local_is
celled_by m f c edged crossing local (Err e) edged_is crossing_is local_is is = is

pub copied_by : {E : Type 0} (f : Function) (c : Contents) (g : Function) (before : List ℕ) (begin : ℕ) (slots early : List Bool) (sizes : List ℕ) (r : Result Function E) → begin ≡ begin_block g → slots ≡ class_flags f c.classes SlotClass.Frame →
    early ≡ label_flags g (begin ∷ before) → sizes ≡ sizes_by_name f c.held → IfOk r (λ x. x ≡ with_begin_copies g slots early sizes) → IfOk r (λ x. x ≡ copied f c g before)
unfolding copied
copied_by f c g before begin slots early sizes (Ok x) begin_is slots_are early_are sizes_are is =
    is ∙ ap (λ (l : List Bool). with_begin_copies g l early sizes) slots_are
    ∙ ap (λ (l : List Bool). with_begin_copies g (class_flags f c.classes SlotClass.Frame) l sizes) (early_are ∙ ap (λ (n : ℕ). label_flags g (n ∷ before)) begin_is)
    ∙ ap (λ (l : List ℕ). with_begin_copies g (class_flags f c.classes SlotClass.Frame) (label_flags g (begin_block g ∷ before)) l) sizes_are
copied_by f c g before begin slots early sizes (Err e) begin_is slots_are early_are sizes_are is = is

pub placed_by : {E : Type 0} (l : Layout) (f : Function) (c : Contents) (g : Function) (base names begin : ℕ) (offsets : List (Option ℕ)) (marked : List Bool) (r : Result Function E) → base ≡ length (with_edge_blocks f).names → names ≡ length g.names →
    begin ≡ begin_of f → offsets ≡ offsets_with l c base (kept_of base c) names → marked ≡ class_flags f c.classes SlotClass.Ramp → IfOk r (λ x. x ≡ with_frame_addresses g begin offsets marked) → IfOk r (λ x. x ≡ placed l f c g)
unfolding placed
placed_by l f c g base names begin offsets marked (Ok x) base_is names_are begin_is offsets_are marked_are is =
    is ∙ ap (λ (n : ℕ). with_frame_addresses g n offsets marked) begin_is
    ∙ ap (λ (t : List (Option ℕ)). with_frame_addresses g (begin_of f) t marked)
    (offsets_are ∙ ap (λ (n : ℕ). offsets_with l c n (kept_of n c) names) base_is ∙ ap (λ (n : ℕ). offsets_of l f c n) names_are)
    ∙ ap (λ (t : List Bool). with_frame_addresses g (begin_of f) (offsets_of l f c (length g.names)) t) marked_are
placed_by l f c g base names begin offsets marked (Err e) base_is names_are begin_is offsets_are marked_are is = is

pub framed_by : {E : Type 0} (m : Module) (l : Layout) (f : Function) (c : Contents) (cells copies laid : Function) (before given : List ℕ) (r : Result Function E) → AreContents m f c → cells ≡ celled m f c → AreBefore cells before → given ≡ before →
    copies ≡ copied f c cells given → laid ≡ placed l f c copies → IfOk r (λ g. g ≡ with_front_allocas laid) → IfOk r (λ g. IsFramedCoroutine m l f g)
framed_by m l f c cells copies laid before given (Ok g) contents cells_are before_are same copies_are laid_is is = record {
  contents = c;
  contents_are = contents;
  before = before;
  before_are = subst (λ (x : Function). AreBefore x before) cells_are before_are;
  is = is ∙ ap with_front_allocas (laid_is ∙ ap (placed l f c) (copies_are ∙ ap (λ (x : List ℕ). copied f c cells x) same ∙ ap (λ (x : Function). copied f c x before) cells_are));
}
framed_by m l f c cells copies laid before given (Err e) contents cells_are before_are same copies_are laid_is is = is

-- ---- functions one by one

pub framed_next : (m : Module) (layouts : List Layout) (taken after i : ℕ) (fs old new : List Function) (f : Function) → AreFramed m layouts taken (take i fs) old → i < length fs → get_or fs i f ≡ f → IsPushed m layouts taken after f old new →
    AreFramed m layouts after (take (i + 1) fs) new
framed_next m layouts taken after i fs old new f framed lt at (IsPushed.AsItIs is same grown) =
    subst (λ (n : ℕ). AreFramed m layouts n (take (i + 1) fs) new) (sym same)
    (subst (λ (l : List Function). AreFramed m layouts taken l new) (sym (take_more fs i f lt ∙ ap (λ (x : Function). take i fs ++ x ∷ []) at))
    (subst (λ (l : List Function). AreFramed m layouts taken (take i fs ++ f ∷ []) l) (sym grown) (Other taken f (take i fs) old framed is)))
framed_next m layouts taken after i fs old new f framed lt at (IsPushed.Framed g is form one_more grown) =
    subst (λ (n : ℕ). AreFramed m layouts n (take (i + 1) fs) new) (sym one_more)
    (subst (λ (l : List Function). AreFramed m layouts (taken + 1) l new) (sym (take_more fs i f lt ∙ ap (λ (x : Function). take i fs ++ x ∷ []) at))
    (subst (λ (l : List Function). AreFramed m layouts (taken + 1) (take i fs ++ f ∷ []) l) (sym grown) (Coroutine taken f g (take i fs) old framed is form)))

pub framed_all : (m : Module) (layouts : List Layout) (taken i : ℕ) (fs all : List Function) → fs ≡ m.functions → AreFramed m layouts taken (take i fs) all → length fs ≤ i → AllFramed m layouts all
framed_all m layouts taken i fs all same framed le =
    record { count = taken; framed = subst (λ (l : List Function). AreFramed m layouts taken l all) (take_all i fs le ∙ same) framed }

pub none_framed : (m : Module) (layouts : List Layout) (fs all : List Function) → all ≡ [] → AreFramed m layouts 0 (take 0 fs) all
none_framed m layouts fs all none = subst (λ (l : List Function). AreFramed m layouts 0 [] l) (sym none) NoneYet

-- ---- one function more

pub pushed_as_it_is : (m : Module) (layouts : List Layout) (taken : ℕ) (f copy : Function) (old new : List Function) → IsFalse f.coroutine → copy ≡ f → new ≡ old ++ copy ∷ [] → IsPushed m layouts taken taken f old new
pushed_as_it_is m layouts taken f copy old new is same grown = IsPushed.AsItIs is refl (grown ∙ ap (λ (x : Function). old ++ x ∷ []) same)

pub pushed_framed : {E : Type 0} (m : Module) (layouts : List Layout) (taken : ℕ) (f g : Function) (old new : List Function) (r : Result ℕ E) → IsTrue f.coroutine → IsFramedCoroutine m (layout_at layouts taken) f g → new ≡ old ++ g ∷ [] →
    IfOk r (λ n. n ≡ taken + 1) → IfOk r (λ after. IsPushed m layouts taken after f old new)
pushed_framed m layouts taken f g old new (Ok after) is form grown one_more = IsPushed.Framed g is form one_more grown
pushed_framed m layouts taken f g old new (Err e) is form grown one_more = one_more
