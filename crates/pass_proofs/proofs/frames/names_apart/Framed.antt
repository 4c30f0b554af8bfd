-- The names of the first pass and of the framed form of a coroutine are different where those of the coroutine are.
use Rattle.std.proofs.Common.{◌≡◌, ℕ, ◌-◌, Bool, true, List, [], ◌∷◌, length, refl, sym, subst}
use Rattle.std.specs.Prelude.{Option, codes}
use Rattle.pass_copies.specs.BeginCopies.{copied_function, copying_of, first_fetched, after_blocks as after_copied}
use Rattle.pass_copies.specs.Slots.{early_slots}
use Rattle.pass_copies.specs.Uses.{used_before}
use Rattle.pass_copies.specs.declared.copying.Copying.{Copying}
use Rattle.pass_exits_proof.specs.frame_contents.declared.contents.Contents.{Contents}
use Rattle.pass_edges.specs.EdgeBlocks.{with_edge_blocks}
use Rattle.pass_edges.specs.Edges.{edges_of, phi_flags}
use Rattle.pass_addresses.specs.Placing.{slot_fetches, with_frame_addresses, without_markers, without_promise}
use Rattle.pass_exits_proof.specs.frame_layout.declared.layout.Layout.{Layout}
use Rattle.ir_model.specs.declared.module.Function.{Function}
use Rattle.ir_model.specs.declared.module.Module.{Module}
use Rattle.pass_exits_proof.specs.frame_classes.declared.class.SlotClass.{SlotClass}
use Rattle.pass_frames.specs.Framed.{IsFramedCoroutine, begin_block, begin_of, celled, copied, offsets_of, placed}
use Rattle.pass_frames.specs.Tables.{class_flags, label_flags, sizes_by_name}
use Rattle.pass_exits_proof.specs.pass_fetch.Blocks.{next_after_blocks, next_after_phis_by, with_fetches}
use Rattle.pass_exits_proof.specs.pass_fetch.declared.fetch.Fetch.{Fetch}
use Rattle.pass_exits_proof.specs.pass_cells.Cells.{fetched_function, fetches_of, named_function, with_cells, with_plan}
use Rattle.pass_exits_proof.specs.pass_cells.Plan.{plan_of}
use Rattle.pass_exits_proof.specs.pass_cells.Written.{after_blocks}
use Rattle.pass_exits_proof.specs.pass_cells.declared.plan.Plan.{Plan}
use Rattle.pass_exits_proof.proofs.rule_laws.rules.names_apart.Numbered.{are_right}
use Rattle.pass_exits_proof.proofs.rule_laws.rules.names_apart.Steps.{IsStep, then_step}
use Rattle.pass_exits_proof.proofs.split.names_apart.Steps.{copies_step, edges_step, named_step, own_step, own_words}
use Rattle.pass_exits_proof.proofs.rule_laws.rules.names_apart.Words.{are_all_unlike, are_own}
use Rattle.pass_exits_proof.specs.rule_laws.rules.names_apart.Words.{AreFew, IsTableOf, cell_words, copy_words, early_words, edge_words, framed_words}

-- ---- blocks on edges, and uses that are fetched

with_edges : (f : Function) → IsStep early_words edge_words f.names (with_edge_blocks f).names
with_edges f = edges_step f.names (length (edges_of (phi_flags f) f))

with_fetched : (old : List (List ℕ)) (w : List ℕ) (f : Function) (t : List (Option Fetch)) → are_all_unlike (w ∷ []) old ≡ true → are_own (w ∷ []) ≡ true → are_right (w ∷ []) ≡ true
    → IsStep old (w ∷ old) f.names (with_fetches f t w).names
with_fetched old w f t unlike own right =
    named_step old w f.names (next_after_blocks t (next_after_phis_by t (length f.names) f.blocks) f.blocks - length f.names) unlike own right

-- ---- values that are kept

planned : (m : Module) (p : Plan) (f : Function) → IsStep edge_words cell_words f.names (with_plan m p f).names
unfolding fetched_function
planned m p f =
    let g : Function = named_function p f in
    let h : Function = fetched_function p f in
    let uses : List (List ℕ) = codes "$c.use." ∷ own_words in
    then_step edge_words own_words cell_words f.names g.names (with_plan m p f).names (own_step f.names (length p.kept) p.links)
    (then_step own_words uses cell_words g.names h.names (with_plan m p f).names (with_fetched own_words (codes "$c.use.") g (fetches_of p) refl refl refl)
    (named_step uses (codes "$c.kept.") h.names (after_blocks m p (length h.names) h.blocks - length h.names) refl refl refl))

-- ---- slots that are copied

with_copies : (f : Function) (before : List Bool) (c : Copying) → IsStep cell_words copy_words f.names (copied_function f before c).names
with_copies f before c = copies_step f.names (length c.slots) (after_copied c before (first_fetched f c) f.blocks - first_fetched f c)

-- ---- addresses

with_addresses : (f : Function) (begin : ℕ) (offsets : List (Option ℕ)) (marked : List Bool) → IsStep copy_words framed_words f.names (with_frame_addresses f begin offsets marked).names
with_addresses f begin offsets marked =
    with_fetched copy_words (codes "$c.at.") (without_promise (without_markers marked f)) (slot_fetches begin offsets) refl refl refl

-- ---- the framed form

celled_step : (m : Module) (f : Function) (c : Contents) → IsStep early_words cell_words f.names (celled m f c).names
unfolding celled
celled_step m f c =
    let a : Function = with_edge_blocks f in
    let flags : List Bool = class_flags f c.classes SlotClass.Local in
    then_step early_words edge_words cell_words f.names a.names (with_cells m a c.crossing flags).names (with_edges f) (planned m (plan_of a c.crossing flags) a)

copied_step : (f : Function) (c : Contents) (g : Function) (before : List ℕ) → IsStep cell_words copy_words g.names (copied f c g before).names
unfolding copied
copied_step f c g before =
    let slots : List Bool = class_flags f c.classes SlotClass.Frame in
    let labels : List Bool = label_flags g (begin_block g ∷ before) in
    with_copies g labels (copying_of g (early_slots g (used_before g slots labels) (sizes_by_name f c.held)))

placed_step : (l : Layout) (f : Function) (c : Contents) (g : Function) → IsStep copy_words framed_words g.names (placed l f c g).names
unfolding placed
placed_step l f c g = with_addresses g (begin_of f) (offsets_of l f c (length g.names)) (class_flags f c.classes SlotClass.Ramp)

pub framed_step : (m : Module) (l : Layout) (f g : Function) → IsFramedCoroutine m l f g → IsStep early_words framed_words f.names g.names
framed_step m l f g h =
    let a : Function = celled m f h.contents in
    let b : Function = copied f h.contents a h.before in
    let c : Function = placed l f h.contents b in
    subst (λ (x : Function). IsStep early_words framed_words f.names x.names) (sym h.is)
    (then_step early_words cell_words framed_words f.names a.names c.names (celled_step m f h.contents)
    (then_step cell_words copy_words framed_words a.names b.names c.names (copied_step f h.contents a h.before) (placed_step l f h.contents b)))

pub framed_table : (m : Module) (l : Layout) (f g : Function) → IsFramedCoroutine m l f g → IsTableOf early_words f.names → AreFew g.names → IsTableOf framed_words g.names
framed_table m l f g is h few = (framed_step m l f g is).table few h
