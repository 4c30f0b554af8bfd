-- A text that stands for a module is read again.
use Rattle.std.proofs.Common.{◌≡◌, ℕ, Bool, true, false, List}
use Rattle.std.specs.Prelude.{IsTrue, ◌↔◌, Result, Ok, Err, IfOk}
use Rattle.std.proofs.lemmas.Bool.{false≢true}
use Rattle.text_grammar.specs.Text.{StandsFor}
use Rattle.ir_model.specs.declared.module.Module.{Module}
use Rattle.text_parser.specs.Reading.{IsReading}
use Rattle.text_parser.specs.declared.text.Parsed.{Parsed}
use Rattle.text_canonical.specs.grammar.ReadBack.{IsReadBack}
use Rattle.worked_examples.specs.ReadAgain.{IsPrintedAgain, IsReadAgain, StandsForOne}

same_module : (m n : Module) → Parsed.Module n ≡ Parsed.Module m → m ≡ n
same_module m n e = cc

no_module : (items : ℕ) (m : Module) → Parsed.Syntax items ≡ Parsed.Module m → ⊥
no_module items m e = absurd (cc)

-- what is printed is read as a module
pub same_again : (m n : Module) (printed : List ℕ) (b : Bool) → IsReadBack printed m → ((k : Module) → StandsFor printed k → Parsed.Module n ≡ Parsed.Module k) → (IsTrue b ↔ (m ≡ n)) → IsPrintedAgain m b
same_again m n printed b back told same text bytes stands = same.1 (same_module m n (told m (back.stands text bytes stands)))

-- what is printed is not read
pub none_again : (m : Module) (items : ℕ) (printed : List ℕ) → IsReadBack printed m → ((k : Module) → StandsFor printed k → Parsed.Syntax items ≡ Parsed.Module k) → IsPrintedAgain m false
none_again m items printed back told text bytes stands = absurd (no_module items m (told m (back.stands text bytes stands)))

-- a text without a module
pub nothing_read : (text : List ℕ) (items : ℕ) → IsReading text (Parsed.Syntax items) → IsReadAgain text false
nothing_read text items h =
    record { sound = λ e. absurd (false≢true e); complete = λ bytes one. absurd (h.1 one.stood one.stands) }

pub module_read : {E : Type 0} (text : List ℕ) (m : Module) (r : Result Bool E) → IsReading text (Parsed.Module m) → IfOk r (λ b. IsPrintedAgain m b) → IfOk r (λ b. IsReadAgain text b)
module_read text m (Ok b) stands again =
    record { sound = λ e. record { stood = m; stands = stands }; complete = λ bytes one. again text bytes stands }
module_read text m (Err e) stands again = again
