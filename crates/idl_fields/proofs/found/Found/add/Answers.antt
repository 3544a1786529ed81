use Rattle.idl_fields.proofs.FoundSteps.{names_push, ids_push}
use Rattle.idl_fields.proofs.found.Found.add.Goals as goal

pub returns-clause-found : goal.returns-clause-found
returns-clause-found c ts h = record {
  names = names_push c.args.text.now c.text_at.result.now ts c.push.new.self c.args.self.now.fields.items _ c.args.field c.text_at.ensures c.in_ok-push-2.ensures.items (c.in_ok-push.ensures.grows _ h.names);
  ids = λ z. ids_push c.args.text.now ts z c.args.self.now.fields.items _ c.args.field _ _ c.in_ok-push-2.ensures.items (h.ids z) (c.in_ok-add_id.ensures.grows z);
}
