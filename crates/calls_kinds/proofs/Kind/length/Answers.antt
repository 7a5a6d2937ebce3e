-- `calls_kinds::Kind::length` meets its contract. Assumes nothing.
use mathlib.Core.Logic.{⊎_elim}
use Rattle.calls_format.specs.Records.{fields_of}
use Rattle.calls_kinds.proofs.Kind.length.Goals as goal

pub returns-in-NewMap : goal.returns-in-NewMap
unfolding fields_of
returns-in-NewMap c = rw c.in-NewMap.is

pub returns-in-Valid : goal.returns-in-Valid
unfolding fields_of
returns-in-Valid c = ⊎_elim (λ e. rw e) (λ e. rw e) c.in-Valid.is

pub returns-in-Record : goal.returns-in-Record
unfolding fields_of
returns-in-Record c = ⊎_elim (λ e. rw e) (⊎_elim (λ e. rw e) (λ e. rw e)) c.in-Record.is

pub returns-in-Written : goal.returns-in-Written
unfolding fields_of
returns-in-Written c = ⊎_elim (λ e. rw e) (λ e. rw e) c.in-Written.is

pub returns-in-Free : goal.returns-in-Free
unfolding fields_of
returns-in-Free c = ⊎_elim (λ e. rw e) (⊎_elim (λ e. rw e) (⊎_elim (λ e. rw e) (λ e. rw e))) c.in-Free.is

pub returns-in-Audit : goal.returns-in-Audit
unfolding fields_of
returns-in-Audit c = rw c.in-Audit.is
