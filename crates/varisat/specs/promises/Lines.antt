-- The commands of a session: what each one calls, how it is spelled on its line, and the texts of answers.
use Rattle.std.specs.Prelude.{◌≡◌, ◌==◌, ◌<◌, ◌^◌, ◌+◌, ◌/◌, ◌%◌, nat_lt, if◌then◌else◌, ℕ, Bool, true, false, Option, Some, None, Result, Ok, Err, List, [], ◌∷◌, ◌++◌, ◌⊎◌, map, flat_map, take, codes, decimal}
use Rattle.std.specs.List.{All, join_with_byte, slice_split}
use Rattle.std.specs.declared.alloc.AllocError.{AllocError}
use Rattle.varisat_theory.specs.promises.Literals.{Literal}
use Rattle.varisat_literals.specs.promises.Numbers.{variable_text, literal_text}
use Rattle.varisat_formula.specs.promises.Streams.{Taken, no_bytes}
use Rattle.varisat_lines.specs.declared.format.ProofFormat.TheVariants.{Drat, BinaryDrat, Marked}
use Rattle.varisat_names.specs.declared.config.ConfigField.{ConfigField}
use Rattle.varisat_names.specs.declared.config.SolverConfigUpdate.{SolverConfigUpdate}
use Rattle.varisat_names.specs.promises.Settings.{field_text, update_of}
use Rattle.varisat_solver.specs.promises.Refusals.{refusal_number}
use Rattle.varisat_solver.specs.promises.ReturnedLists.{returned_list, returned_variables}
use Rattle.varisat.specs.declared.session.Call.{Call}
use Rattle.varisat.specs.declared.session.Call.TheVariants as call
use Rattle.varisat.specs.declared.session.Answer.{Answer}
use Rattle.varisat.specs.declared.session.Answer.TheVariants as answer
use Rattle.varisat_solver.specs.declared.solver.SolverError.{SolverError}
use Rattle.varisat_solver.specs.declared.solver.SolverError.TheVariants.{OutOfMemory}

-- a command, by its call; a literal is its code, a variable its index, and an update changes one setting
pub data Command : Type 0 where
  Add : List Literal → Command
  Assume : List Literal → Command
  New : Command
  Sample : ℕ → Command
  Witness : ℕ → Command
  Hide : ℕ → Command
  Observe : Command
  Solve : Command
  Model : Command
  Core : Command
  Config : ConfigField → ℕ → Command
  Steps : Command
  Since : Command
  ProofText : Command
  ProofBinary : Command
  ProofMarked : Command
  Close : Command
  SelfCheck : Command

-- the words of a command, in order
abbrev pub words : Command → List (List ℕ)
words (Add literals) = codes "add" ∷ map literal_text literals
words (Assume literals) = codes "assume" ∷ map literal_text literals
words New = codes "new" ∷ []
words (Sample variable) = codes "sample" ∷ variable_text variable ∷ []
words (Witness variable) = codes "witness" ∷ variable_text variable ∷ []
words (Hide variable) = codes "hide" ∷ variable_text variable ∷ []
words Observe = codes "observe" ∷ []
words Solve = codes "solve" ∷ []
words Model = codes "model" ∷ []
words Core = codes "core" ∷ []
words (Config field value) = codes "config" ∷ field_text field ∷ decimal value ∷ []
words Steps = codes "steps" ∷ []
words Since = codes "since" ∷ []
words ProofText = codes "proof" ∷ codes "text" ∷ []
words ProofBinary = codes "proof" ∷ codes "binary" ∷ []
words ProofMarked = codes "proof" ∷ codes "marked" ∷ []
words Close = codes "close" ∷ []
words SelfCheck = codes "selfcheck" ∷ []

-- its words, with one space between each two
abbrev pub spelling : Command → List ℕ
spelling command = join_with_byte 32 (words command)

-- its literals' and variables' numbers are at most 2^31, and a value is below 2^64
abbrev pub HasNumbersInRange : Command → Type 0
HasNumbersInRange (Add literals) = All (λ l. l < 2 ^ 32) literals
HasNumbersInRange (Assume literals) = All (λ l. l < 2 ^ 32) literals
HasNumbersInRange New = Unit {0}
HasNumbersInRange (Sample variable) = variable < 2 ^ 31
HasNumbersInRange (Witness variable) = variable < 2 ^ 31
HasNumbersInRange (Hide variable) = variable < 2 ^ 31
HasNumbersInRange Observe = Unit {0}
HasNumbersInRange Solve = Unit {0}
HasNumbersInRange Model = Unit {0}
HasNumbersInRange Core = Unit {0}
HasNumbersInRange (Config field value) = value < 2 ^ 64
HasNumbersInRange Steps = Unit {0}
HasNumbersInRange Since = Unit {0}
HasNumbersInRange ProofText = Unit {0}
HasNumbersInRange ProofBinary = Unit {0}
HasNumbersInRange ProofMarked = Unit {0}
HasNumbersInRange Close = Unit {0}
HasNumbersInRange SelfCheck = Unit {0}

-- the text means the command
pub record MeansCommand (text : List ℕ) (command : Command) : Type 0 where
  pub spelled : spelling command ≡ text
  pub in_range : HasNumbersInRange command

-- the text begins as that of a clause, or of a list of assumptions
abbrev pub BeginsList : List ℕ → Type 0
BeginsList text = (take 4 text ≡ codes "add ") ⊎ (take 7 text ≡ codes "assume ")

-- the text means that one setting is changed, as the update does
abbrev pub MeansUpdate : List ℕ → SolverConfigUpdate → Type 0
MeansUpdate text update =
    (field : ConfigField) × (value : ℕ) × (update ≡ update_of field value) × MeansCommand text (Config field value)

-- no two commands are spelled alike
abbrev pub MeansOneCommand : Type 0
MeansOneCommand = (text : List ℕ) (a b : Command) → MeansCommand text a → MeansCommand text b → a ≡ b

-- the command asks for the call: a proof is written to memory
abbrev pub AsksFor : {S A : Type 0} → Call Taken S A → Command → Type 0
AsksFor (call.AddClause literals) (Add numbers) = literals.items ≡ numbers
AsksFor (call.Assume literals) (Assume numbers) = literals.items ≡ numbers
AsksFor call.NewVar New = Unit {0}
AsksFor (call.SampleVar v) (Sample variable) = v ≡ variable
AsksFor (call.WitnessVar v) (Witness variable) = v ≡ variable
AsksFor (call.HideVar v) (Hide variable) = v ≡ variable
AsksFor call.ObserveInternalVars Observe = Unit {0}
AsksFor call.Solve Solve = Unit {0}
AsksFor call.Model Model = Unit {0}
AsksFor call.FailedCore Core = Unit {0}
AsksFor (call.Config update) (Config field value) = update ≡ update_of field value
AsksFor call.Steps Steps = Unit {0}
AsksFor call.StepsSinceChange Since = Unit {0}
AsksFor (call.WriteProof target format) ProofText = (target ≡ no_bytes) × (format ≡ Drat)
AsksFor (call.WriteProof target format) ProofBinary = (target ≡ no_bytes) × (format ≡ BinaryDrat)
AsksFor (call.WriteProof target format) ProofMarked = (target ≡ no_bytes) × (format ≡ Marked)
AsksFor call.CloseProof Close = Unit {0}
AsksFor call.EnableSelfChecking SelfCheck = Unit {0}
AsksFor _ _ = ⊥

-- the command sets how one variable is used
abbrev pub SetsUsage : Command → Type 0
SetsUsage (Sample variable) = Unit {0}
SetsUsage (Witness variable) = Unit {0}
SetsUsage (Hide variable) = Unit {0}
SetsUsage _ = ⊥

-- the command opens a proof
abbrev pub Opens : Command → Type 0
Opens ProofText = Unit {0}
Opens ProofBinary = Unit {0}
Opens ProofMarked = Unit {0}
Opens _ = ⊥

-- the words that a text is cut into at its spaces
abbrev pub words_of : List ℕ → List (List ℕ)
words_of text = slice_split (λ b. b == 32) text

-- each literal after a space, and then a space and `0`
abbrev pub literals_text : List Literal → List ℕ
literals_text literals = flat_map (λ l. 32 ∷ literal_text l) literals ++ codes " 0"

-- a refusal is printed as its number
abbrev pub refusal_text : SolverError → List ℕ
refusal_text error = codes "err " ++ decimal (refusal_number error)

-- what is returned of a verdict
abbrev pub truth_text : Bool → List ℕ
truth_text true = codes "ok true"
truth_text false = codes "ok false"

-- what is returned of a call that returns nothing: that it is done, or its refusal
abbrev pub done_text : Result (Unit {0}) SolverError → List ℕ
done_text (Ok _) = codes "ok"
done_text (Err error) = refusal_text error

-- the text of a model or a core, if there is one
abbrev pub list_text : Result (Option (List Literal)) AllocError → List ℕ
list_text (Ok (Some literals)) = codes "ok" ++ literals_text literals
list_text (Ok None) = codes "ok none"
list_text (Err _) = refusal_text OutOfMemory

-- each variable after a space, and then a space and `0`
abbrev pub variables_text : List ℕ → List ℕ
variables_text variables = flat_map (λ v. 32 ∷ variable_text v) variables ++ codes " 0"

-- the text of the names that came back, or of the refusal
abbrev pub names_text : Result (List ℕ) SolverError → List ℕ
names_text (Ok names) = codes "ok" ++ variables_text names
names_text (Err error) = refusal_text error

-- the text of a variable that was made, or of the refusal
abbrev pub made_text : Result ℕ SolverError → List ℕ
made_text (Ok variable) = codes "ok " ++ variable_text variable
made_text (Err error) = refusal_text error

-- the text of what `solve` returned
abbrev pub solved_text : Result Bool SolverError → List ℕ
solved_text (Ok b) = truth_text b
solved_text (Err error) = refusal_text error

abbrev pub count_text : ℕ → List ℕ
count_text n = codes "ok " ++ decimal n

-- a digit of hexadecimal in lower case
abbrev pub hex_digit : ℕ → ℕ
hex_digit digit = if nat_lt digit 10 then 48 + digit else 87 + digit

-- each byte in two digits
abbrev pub hex_text : List ℕ → List ℕ
hex_text bytes = flat_map (λ b. hex_digit (b / 16) ∷ hex_digit (b % 16) ∷ []) bytes

-- the text of the bytes of a proof
abbrev pub bytes_text : List ℕ → List ℕ
bytes_text [] = codes "ok"
bytes_text (b ∷ bytes) = codes "ok " ++ hex_text (b ∷ bytes)

-- the text of a proof that was opened, or of the refusal
abbrev pub opened_text : Result (Unit {0}) (SolverError × Taken) → List ℕ
opened_text (Ok _) = codes "ok"
opened_text (Err failure) = refusal_text failure.0

-- the text of a proof that was closed, if one was open, or of the refusal
abbrev pub closed_text : Result (Option Taken) (SolverError × Taken) → List ℕ
closed_text (Ok None) = codes "ok none"
closed_text (Ok (Some target)) = bytes_text target.bytes
closed_text (Err failure) = refusal_text failure.0

-- the text of an answer, where proofs are written to memory
abbrev pub answer_text : {S A : Type 0} → Answer Taken S A → List ℕ
answer_text (answer.AddClause done) = done_text done
answer_text (answer.AddFormula done) = done_text done
answer_text (answer.AddDimacsCnf done source) = done_text done
answer_text (answer.Assume done) = done_text done
answer_text (answer.NewVar made) = made_text made
answer_text (answer.SampleVar done) = done_text done
answer_text (answer.WitnessVar done) = done_text done
answer_text (answer.HideVar done) = done_text done
answer_text (answer.ObserveInternalVars names) = names_text (returned_variables names)
answer_text (answer.Solve solved) = solved_text solved
answer_text (answer.Model list) = list_text (returned_list list)
answer_text (answer.FailedCore list) = list_text (returned_list list)
answer_text (answer.Config done) = done_text done
answer_text answer.SetMaxSteps = codes "ok"
answer_text (answer.SetPhase done) = done_text done
answer_text answer.UnsetPhase = codes "ok"
answer_text (answer.Steps steps) = count_text steps
answer_text (answer.StepsSinceChange steps) = count_text steps
answer_text (answer.IsValid b) = truth_text b
answer_text (answer.IsFixed b) = truth_text b
answer_text (answer.WriteProof opened) = opened_text opened
answer_text (answer.CloseProof closed) = closed_text closed
answer_text (answer.EnableSelfChecking done) = done_text done
