use Rattle.pg_joined.proofs.Keeping.{where_valid}
use Rattle.pg_joined.proofs.KeptPages.{acknowledge_kept, cancel_kept, close_kept, drop_queue_kept, receive_kept, send_kept}
use Rattle.pg_joined.proofs.KeptSteps.{acts_kept}
use Rattle.pg_joined.proofs.laws.split_kept.Goals as goal

pub returns-clause-where_valid : goal.returns-clause-where_valid
returns-clause-where_valid c = λ s paged flights valid ascend out_of_pages out_of_broker. where_valid s paged flights valid ascend out_of_pages out_of_broker

pub returns-clause-acts : goal.returns-clause-acts
returns-clause-acts c = λ view s t paged flights action reply split valid none acts. acts_kept view s t paged flights action reply split valid none acts

pub returns-clause-drop_queue_and_pages : goal.returns-clause-drop_queue_and_pages
returns-clause-drop_queue_and_pages c = λ view s t paged flights name q split valid found acts. drop_queue_kept view s t paged flights name q split valid found acts

pub returns-clause-close : goal.returns-clause-close
returns-clause-close c = λ view s t paged flights reply consumer split valid acts. close_kept view s t paged flights reply consumer split valid acts

pub returns-clause-receive_in_pages : goal.returns-clause-receive_in_pages
returns-clause-receive_in_pages c = λ s paged flights name consumer q m split valid found of first. receive_kept s paged flights name consumer q m split valid found of first

pub returns-clause-acknowledge_in_pages : goal.returns-clause-acknowledge_in_pages
returns-clause-acknowledge_in_pages c = λ s paged flights name id queue split valid. acknowledge_kept s paged flights name id queue split valid

pub returns-clause-cancel_in_pages : goal.returns-clause-cancel_in_pages
returns-clause-cancel_in_pages c = λ s paged flights name id split valid. cancel_kept s paged flights name id split valid

pub returns-clause-send_in_pages : goal.returns-clause-send_in_pages
returns-clause-send_in_pages c = λ s paged flights numbers m split valid. send_kept s paged flights numbers m split valid
