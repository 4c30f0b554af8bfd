-- Names, results and types of parameters of the functions that the passes up to the framed form make.
use Rattle.std.proofs.Common.{◌≡◌, ℕ, List, [], ◌∷◌, ◌++◌, refl, sym, ap, ◌∙◌, subst}
use Rattle.std.specs.Prelude.{map}
use Rattle.pass_exits_proof.specs.frame_contents.declared.contents.Contents.{Contents}
use Rattle.pass_exits_proof.specs.frame_layout.declared.layout.Layout.{Layout}
use Rattle.pass_exits_proof.specs.frame_layout.declared.layout.Layouts.{Layouts}
use Rattle.pass_exits_proof.specs.pass_front.Front.{with_front_allocas}
use Rattle.pass_exits_proof.specs.ir_laws.facts.function_rules.Signatures.{HaveSameSignatures, heading}
use Rattle.ir_model.specs.declared.module.Function.{Function}
use Rattle.ir_model.specs.declared.module.Module.{Module}
use Rattle.pass_frames.specs.Framed.{AreFramed, Coroutine, IsFramedCoroutine, IsFramedForm, NoneYet, Other, celled, copied, layout_at, placed}
use Rattle.pass_exits_proof.specs.pass_cells.Cells.{fetched_function}
use Rattle.pass_exits_proof.specs.ir_laws.facts.same_names.Same.{HaveSameNames, naming}
use Rattle.pass_exits_proof.proofs.ir_laws.facts.Numbers.{IsHeadedAs, heading_stays, naming_stays}

itself : (f : Function) → IsHeadedAs f f
itself f = record { name = refl; result = refl; params = refl; coroutine = refl }

-- ---- the framed form

placed_headed : (m : Module) (l : Layout) (f : Function) (c : Contents) (before : List ℕ) → IsHeadedAs f (placed l f c (copied f c (celled m f c) before))
unfolding placed copied celled fetched_function
placed_headed m l f c before = record { name = refl; result = refl; params = refl; coroutine = refl }

front_headed : (f g : Function) → IsHeadedAs f g → IsHeadedAs f (with_front_allocas g)
front_headed f g h = record { name = h.name; result = h.result; params = h.params; coroutine = h.coroutine }

pub framed_headed : (m : Module) (l : Layout) (f g : Function) → IsFramedCoroutine m l f g → IsHeadedAs f g
framed_headed m l f g h = subst (IsHeadedAs f) (sym h.is) (front_headed f (placed l f h.contents (copied f h.contents (celled m f h.contents) h.before)) (placed_headed m l f h.contents h.before))

map_joined : {A B : Type 0} (what : A → B) (xs ys : List A) → map what (xs ++ ys) ≡ map what xs ++ map what ys
map_joined what [] ys = refl
map_joined what (x ∷ xs) ys = ap (λ zs. what x ∷ zs) (map_joined what xs ys)

one_more : {A : Type 0} (what : Function → A) (fs gs : List Function) (f g : Function) → map what gs ≡ map what fs → what g ≡ what f → map what (gs ++ g ∷ []) ≡ map what (fs ++ f ∷ [])
one_more what fs gs f g e d =
    map_joined what gs (g ∷ [])
    ∙ ap (λ xs. xs ++ what g ∷ []) e
    ∙ ap (λ x. map what fs ++ x ∷ []) d
    ∙ sym (map_joined what fs (f ∷ []))

all_framed : {A : Type 0} (what : Function → A) → ((f g : Function) → IsHeadedAs f g → what g ≡ what f) → (m : Module) (layouts : List Layout) (k : ℕ) (fs gs : List Function) → AreFramed m layouts k fs gs → map what gs ≡ map what fs
all_framed what h m layouts _ _ _ NoneYet = refl
all_framed what h m layouts _ _ _ (Other k f fs gs rest plain) = one_more what fs gs f f (all_framed what h m layouts k fs gs rest) refl
all_framed what h m layouts _ _ _ (Coroutine k f g fs gs rest coroutine is) =
    one_more what fs gs f g (all_framed what h m layouts k fs gs rest) (h f g (framed_headed m (layout_at layouts k) f g is))

pub framed_names : (layouts : Layouts) (m n : Module) → IsFramedForm layouts m n → HaveSameNames m n
framed_names layouts m n h =
    record {
      types = h.types;
      globals = h.globals;
      declarations = h.declarations;
      functions = all_framed naming naming_stays m layouts.coroutines h.functions.count m.functions n.functions h.functions.framed;
    }

pub framed_signatures : (layouts : Layouts) (m n : Module) → IsFramedForm layouts m n → HaveSameSignatures m n
framed_signatures layouts m n h =
    record {
      types = h.types;
      globals = h.globals;
      declarations = h.declarations;
      functions = all_framed heading heading_stays m layouts.coroutines h.functions.count m.functions n.functions h.functions.framed;
    }
