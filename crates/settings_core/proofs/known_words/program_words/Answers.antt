use Rattle.clap.specs.Words.{App, with_subcommand}
use Rattle.settings_core.specs.Program.{top, answer, check, plan, sim, serve, sync, put, news, stop, status}
use Rattle.settings_core.proofs.known_words.program_words.Goals as goal

abbrev with_answer : App
with_answer = with_subcommand top answer.top

abbrev with_check : App
with_check = with_subcommand with_answer check.top

abbrev with_plan : App
with_plan = with_subcommand with_check plan.top

abbrev with_sim : App
with_sim = with_subcommand with_plan sim.top

abbrev with_serve : App
with_serve = with_subcommand with_sim serve.top

abbrev with_sync : App
with_sync = with_subcommand with_serve sync.top

abbrev with_put : App
with_put = with_subcommand with_sync put.top

abbrev with_news : App
with_news = with_subcommand with_put news.top

pub returns : goal.returns
returns c =
    let one = c.in_ok-words.ensures top answer c.top_words.ensures c.answer_words.ensures in
    let two = c.in_ok-words-2.ensures with_answer check one c.check_words.ensures in
    let three = c.in_ok-words-3.ensures with_check plan two c.plan_words.ensures in
    let four = c.in_ok-words-4.ensures with_plan sim three c.sim_words.ensures in
    let five = c.in_ok-words-5.ensures with_sim serve four c.serve_words.ensures in
    let six = c.in_ok-words-6.ensures with_serve sync five c.sync_words.ensures in
    let seven = c.in_ok-words-7.ensures with_sync put six c.put_words.ensures in
    let eight = c.in_ok-words-8.ensures with_put news seven c.news_words.ensures in
    let nine = c.in_ok-words-9.ensures with_news stop eight c.stop_words.ensures in
    c.with_command-10.ensures (with_subcommand with_news stop.top) status nine c.status_words.ensures
