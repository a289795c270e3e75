-- The starred examples.
use Rattle.std.proofs.Common.{[], Ok, refl, subst, inl, append-nil, arith}
use Rattle.std.proofs.lemmas.Bool.{le-leb, and_from}
use Rattle.record.specs.declared.kinds.Record.TheVariants.{Opening}
use Rattle.record.specs.declared.fault.RecordFault.TheVariants.{Field}
use Rattle.record.specs.Format.{encode, fault_at}
use Rattle.image.specs.declared.fault.ImageFault.TheVariants.{InRecord}
use Rattle.image.specs.Images.{ImageRead, wrong_first}
use Rattle.image.specs.Starred.{Refuses, Starred}
use Rattle.image.proofs.Back.{reads_back}

empty : Refuses [] 21 0
unfolding fault_at
empty = (InRecord (Field (record { offset = 0 })), wrong_first _ (inl (_, refl, refl)) refl, refl, refl)

pub starred : Starred
starred = record {
  empty = empty;
  alone = λ b t v. subst (λ bs. ImageRead bs (Ok (b, []))) (append-nil (encode (Opening b)))
      (reads_back b [] (record { ballot_fits = (omega arith, omega arith); entries_fit = tt; ranged = and_from _ _ (and_from _ _ (le-leb _ 3 v) (le-leb _ 1000000 t)) refl; few = omega arith }));
}
