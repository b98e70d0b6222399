-- What a call on linked variables begins with, and what it leaves. It reads the parts p, which are q; its caller sees the tables t.
use Rattle.std.proofs.Common.{◌≡◌, ℕ, false, Option, Some, List, sym, ap, ◌∙◌, subst, refl}
use Rattle.std.specs.BTreeSet.{BTreeSet}
use Rattle.varisat_names.specs.promises.VarMap.{at}
use Rattle.varisat_names.specs.promises.VarBiMap.{BiMap}
use Rattle.varisat_names.specs.promises.VarData.{data_at, IsDataAt, AreDeleted}
use Rattle.varisat_names.specs.promises.Variables.{Tables, VariableParts, AreLinked, AreListed, AreFree}
use Rattle.varisat_names.specs.declared.variables.data.VarData.{VarData}
use Rattle.varisat_names.proofs.Linked.{keep-live, same-tables}

module _ {p q : VariableParts} (same : p ≡ q) (known : AreLinked q.tables × AreListed q) where
  pub begun : AreLinked p.tables × AreListed p
  begun = subst (λ r. AreLinked r.tables × AreListed r) (sym same) known

  -- the variable of a name
  pub named-before : (u x : ℕ) {t : Tables} → q.tables ≡ t → at t.users.forward u ≡ Some x → at p.tables.users.forward u ≡ Some x
  named-before u x {t} seen named = ap (λ r. at r.tables.users.forward u) same ∙ ap (λ s. at s.users.forward u) seen ∙ named

  pub named-live : (u x : ℕ) {t : Tables} → q.tables ≡ t → at t.users.forward u ≡ Some x → (data_at p.tables.kept x).deleted ≡ false
  named-live u x {t} seen named = begun.0.named x u (begun.0.users.there u x (named-before u x seen named))

  -- the variable that has a solver variable, as it was read
  pub taken-before : (x v : ℕ) {m : List (Option ℕ)} {o : Option ℕ} → m ≡ q.tables.solvers.backward → o ≡ at m v → o ≡ Some x →
      at p.tables.solvers.forward x ≡ Some v
  taken-before x v {m} {o} map read is = begun.0.solvers.back x v (ap (λ r. at r.tables.solvers.backward v) same ∙ ap (λ n. at n v) (sym map) ∙ sym read ∙ is)

  pub taken-live : (x v : ℕ) {m : List (Option ℕ)} {o : Option ℕ} → m ≡ q.tables.solvers.backward → o ≡ at m v → o ≡ Some x →
      (data_at p.tables.kept x).deleted ≡ false
  taken-live x v {m} {o} map read is = begun.0.taken x v (taken-before x v map read is)

  -- Other data is kept of a live variable, which is live by it too.
  pub data-set : (x : ℕ) {t : Tables} {kept : List VarData} {free : BTreeSet ℕ} {d e : VarData} → q.tables ≡ t →
      (data_at t.kept x).deleted ≡ false → d ≡ data_at p.tables.kept x → e.deleted ≡ d.deleted → IsDataAt p.tables.kept x e kept → AreDeleted kept free →
      AreLinked (record p.tables { kept = kept }) × AreListed (record { tables = record p.tables { kept = kept }; free = record p.free { globals = free } })
  data-set x {t} {kept} {free} {d} {e} seen live read same_live k deleted =
      let (linked, listed) = begun in
      let l = same_live ∙ ap (λ z. z.deleted) read ∙ ap (λ r. (data_at r.tables.kept x).deleted) same ∙ ap (λ s. (data_at s.kept x).deleted) seen ∙ live in
      (keep-live p.tables kept x e linked l k, record { users = listed.users; solvers = listed.solvers; globals = deleted })

  -- The names stay, since memory was refused.
  pub names-stay : {users : BiMap} {free : BTreeSet ℕ} → users ≡ p.tables.users → AreFree users.forward free →
      AreLinked (record p.tables { users = users }) × AreListed (record { tables = record p.tables { users = users }; free = record p.free { users = free } })
  names-stay {users} {free} stay free_names =
      let (linked, listed) = begun in (
        same-tables p.tables users p.tables.solvers p.tables.kept stay refl refl linked,
        record { users = free_names; solvers = listed.solvers; globals = listed.globals },
      )
