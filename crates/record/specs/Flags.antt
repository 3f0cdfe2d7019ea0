-- The flags of a record: SRM and SSN, one bit of each for every port.
use Rattle.std.specs.Prelude.{◌≡◌, ℕ, Bool, not, ◌&&◌, ◌||◌}
use Rattle.record.specs.declared.record.Record.{Record}
use Rattle.record.specs.States.{may_be_sent}
use Rattle.record.specs.Ports.{has_port}

-- whether the record is to be sent, and to be reported, on a port
abbrev pub srm_at : Record → ℕ → Bool
srm_at x k = has_port x.srm k

abbrev pub ssn_at : Record → ℕ → Bool
ssn_at x k = has_port x.ssn k

-- a placeholder is never to be sent
abbrev pub may_send : Record → Bool
may_send x = may_be_sent x.state

-- everything but the flags is as it was
pub record Kept (x y : Record) : Type 0 where
  pub id : y.id ≡ x.id
  pub state : y.state ≡ x.state

-- the record x with these ports for its flags
pub record Marked (x y : Record) (sent reported : ℕ → Bool) : Type 0 where
  pub srm : (k : ℕ) → srm_at y k ≡ sent k
  pub ssn : (k : ℕ) → ssn_at y k ≡ reported k
  pub kept : Kept x y

-- what setting and clearing flags on some ports leaves
abbrev pub SetsSrm : Record → Record → (ℕ → Bool) → Type 0
SetsSrm x y ports = Marked x y (λ k. srm_at x k || (may_send x && ports k)) (λ k. ssn_at x k)

abbrev pub ClearsSrm : Record → Record → (ℕ → Bool) → Type 0
ClearsSrm x y ports = Marked x y (λ k. srm_at x k && not (ports k)) (λ k. ssn_at x k)

abbrev pub SetsSsn : Record → Record → (ℕ → Bool) → Type 0
SetsSsn x y ports = Marked x y (λ k. srm_at x k) (λ k. ssn_at x k || ports k)

abbrev pub ClearsSsn : Record → Record → (ℕ → Bool) → Type 0
ClearsSsn x y ports = Marked x y (λ k. srm_at x k) (λ k. ssn_at x k && not (ports k))
