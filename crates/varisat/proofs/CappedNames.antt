-- No name is in use from the watermark on, whatever calls make of the names.
use Rattle.std.proofs.Common.{◌≡◌, ℕ, zero, suc, ◌≤◌, ◌-◌, nat_lt, if◌then◌else◌, Bool, true, false, List, [], ◌∷◌, sym, ◌∙◌, subst, refl, Option, Some, None, arith}
use Rattle.varisat_theory.specs.promises.Literals.{Literal, variable_of}
use Rattle.varisat_names.proofs.Maps.{updated-other, updated-all}
use Rattle.varisat_solver.specs.promises.Names.{Naming, bring, bring_next, bring_if_free, name_one, name_all, free_name, give_name, AreShown}

-- no name is in use from the watermark on
abbrev pub IsCapped : Naming → Type 0
IsCapped m = (u : ℕ) → m.watermark ≤ u → m.names u ≡ None

capped-bring : (u : ℕ) (m : Naming) → IsCapped m → IsCapped (bring u m)
capped-bring u m f v h = updated-other m.names u (Some m.made) v (λ e. absurd (omega arith)) ∙ f v (omega arith)

capped-next : (k : ℕ) (m : Naming) → IsCapped m → IsCapped (bring_next k m)
capped-next zero m f = f
capped-next (suc k) m f = capped-next k (bring m.watermark m) (capped-bring m.watermark m f)

capped-free : (u : ℕ) (o : Option ℕ) (m : Naming) → IsCapped m → IsCapped (bring_if_free u o m)
capped-free u None m f = capped-bring u m f
capped-free u (Some i) m f = f

pub capped-one : (u : ℕ) (m : Naming) → IsCapped m → IsCapped (name_one u m)
capped-one u m f = go (nat_lt u m.watermark)
  where
    go : (b : Bool) → IsCapped (if b then bring_if_free u (m.names u) m else bring_next (suc u - m.watermark) m)
    go true = capped-free u (m.names u) m f
    go false = capped-next (suc u - m.watermark) m f

pub capped-all : (d : List Literal) (m : Naming) → IsCapped m → IsCapped (name_all d m)
capped-all [] m f = f
capped-all (l ∷ d) m f = capped-all d (name_one (variable_of l) m) (capped-one (variable_of l) m f)

pub capped-freed : (u : ℕ) (m : Naming) → IsCapped m → IsCapped (free_name u m)
capped-freed u m f v h = updated-all (λ v o. o ≡ None) m.names u None refl v (λ n. f v h)

capped-given : (u i : ℕ) (m : Naming) → IsCapped m → IsCapped (give_name u i m)
capped-given u i m f v h = updated-other m.names u (Some i) v (λ e. absurd (omega arith)) ∙ f v (omega arith)

pub capped-shown : (us : List ℕ) (old new : Naming) → AreShown us old new → IsCapped old → IsCapped new
capped-shown [] old new e f = subst IsCapped (sym e) f
capped-shown (u ∷ us) old new (least, (i, made, unnamed, rest)) f = capped-shown us (give_name u i old) new rest (capped-given u i old f)
